use Rattle.std.proofs.Common.{◌≡◌, ◌+◌, length, drop, subst, arith}
use Rattle.core_cpu.specs.Layout.{IsHeld}
use Rattle.core_cpu.proofs.Entering.{held_frame, held_frames}
use Rattle.core_cpu.proofs.FrameCount.{frames_count}
use Rattle.core_cpu.proofs.state.State.within.Goals as goal

pub returns : goal.returns
returns c =
    let s = c.self.inside in
    let all : s.callers.1 + length s.callers.0 ≡ 63 = c.self.invariant.0 in
    subst
    IsHeld
    c.self.view_is
    (record {
      few = rw frames_count (omega arith);
      top = held_frame s.width s.here s.slots.0 s.operands.0 s.handlers.0 c.self.invariant.1.within.0;
      callers = held_frames s.width s.callers.0 (drop s.here.function.slots s.slots.0) (drop s.here.height s.operands.0) (drop s.here.tries s.handlers.0) c.self.invariant.1.within.1;
    })
