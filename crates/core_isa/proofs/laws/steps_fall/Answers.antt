use Rattle.core_isa.proofs.Ending.{steps_fall as proof}
use Rattle.core_isa.proofs.laws.steps_fall.Goals as goal

pub returns : goal.returns
returns c = proof
