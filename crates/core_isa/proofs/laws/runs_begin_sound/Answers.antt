use Rattle.core_isa.proofs.Safe.{begins_sound}
use Rattle.core_isa.proofs.laws.runs_begin_sound.Goals as goal

pub returns : goal.returns
returns c = begins_sound
