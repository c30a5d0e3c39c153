use Rattle.core_isa.proofs.Ending.{has_one_run}
use Rattle.core_isa.proofs.laws.one_end.Goals as goal

pub returns : goal.returns
returns c = has_one_run
