use Rattle.kernel_session.proofs.Taking.{main_takes_none}
use Rattle.kernel_session.proofs.laws.main_takes_no_arguments.Goals as goal

pub returns : goal.returns
returns c = main_takes_none
