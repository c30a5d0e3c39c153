use Rattle.core_isa.proofs.Ending.{runs_end}
use Rattle.core_isa.proofs.laws.marked_code_ends.Goals as goal

pub returns : goal.returns
returns c = runs_end
