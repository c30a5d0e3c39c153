use Rattle.desk_kernels.proofs.Alone.{alone}
use Rattle.desk_kernels.proofs.law.open_sessions_are_alone.Goals as goal

pub returns : goal.returns
returns c = alone
