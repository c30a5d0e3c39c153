use Rattle.std.proofs.Common.{arith}
use Rattle.std.proofs.lemmas.Int.{to_z-of_z}
use Rattle.core_cpu.proofs.FrameCount.{frames_count}
use Rattle.core_cpu.proofs.state.State.open_recording.Goals as goal

pub returns : goal.returns
returns c = rw (← c.self.view_is) (grind (arith, to_z-of_z, frames_count))
