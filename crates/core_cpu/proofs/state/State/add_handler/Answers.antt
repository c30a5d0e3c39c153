use Rattle.std.proofs.Common.{◌≡◌, ◌+◌, ◌<◌, ◌≤◌, ◌∷◌, length, take, map, arith, sym, subst}
use Rattle.core_cpu.specs.Layout.{point_of, IsLaidOut}
use Rattle.core_cpu.proofs.Room.{room_for_handler, added}
use Rattle.core_cpu.proofs.state.State.add_handler.Goals as goal

pub push-requires : goal.push-requires
push-requires c =
    let s = c.self.inside in
    let fewer : length (map point_of (take s.here.tries s.handlers.0)) < 255 = rw (← c.self.view_is) at c.requires.room in
    let all : s.callers.1 + length s.callers.0 ≡ 63 = c.self.invariant.0 in
    (room_for_handler s.width s.here s.callers.0 s.slots s.operands s.handlers (omega arith) c.self.invariant.1 fewer).0

pub invariant_of-self : goal.invariant_of-self
invariant_of-self c =
    let s = c.self.inside in
    let fewer : length (map point_of (take s.here.tries s.handlers.0)) < 255 = rw (← c.self.view_is) at c.requires.room in
    let all : s.callers.1 + length s.callers.0 ≡ 63 = c.self.invariant.0 in
    let room : (1 ≤ s.handlers.1) × (s.here.tries < 255) =
    room_for_handler s.width s.here s.callers.0 s.slots s.operands s.handlers (omega arith) c.self.invariant.1 fewer
    in (
      c.self.invariant.0,
      subst
          (λ handlers. IsLaidOut s.width (record s.here { tries = s.here.tries + 1 } ∷ s.callers.0) s.slots s.operands handlers)
          (sym c.push.ensures)
          (added s.width s.here s.callers.0 s.slots s.operands s.handlers _ room.1 room.0 c.self.invariant.1),
    )
