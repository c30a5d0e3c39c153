use Rattle.std.proofs.Common.{eqb, ap}
use Rattle.core_cpu.proofs.FrameCount.{frames_count}
use Rattle.core_cpu.proofs.state.State.opened_here.Goals as goal

pub returns-in-Some : goal.returns-in-Some
returns-in-Some c = rw (← c.self.view_is, c.in-Some.is, frames_count) (ap (eqb c.in-Some.block.callers) c.count.ensures)
