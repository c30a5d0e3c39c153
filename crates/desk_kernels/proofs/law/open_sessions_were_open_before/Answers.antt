use Rattle.desk_kernels.proofs.Alone.{stays-open}
use Rattle.desk_kernels.proofs.law.open_sessions_were_open_before.Goals as goal

pub returns : goal.returns
returns c = stays-open
