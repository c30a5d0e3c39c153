use Rattle.core_isa.proofs.Safe.{step_sound}
use Rattle.core_isa.proofs.laws.steps_stay_sound.Goals as goal

pub returns : goal.returns
returns c = step_sound
