use Rattle.std.proofs.Common.{◌≡◌, ◌+◌, ◌<◌, ◌≤◌, ◌∷◌, length, take, arith, sym, subst}
use Rattle.core_cpu.specs.Layout.{IsLaidOut}
use Rattle.core_cpu.proofs.Room.{room_for_one, pushed}
use Rattle.core_cpu.proofs.state.State.push.Goals as goal

pub push-requires : goal.push-requires
push-requires c =
    let fewer : length (take c.self.inside.here.height c.self.inside.operands.0) < 255 =
    subst (λ held. length held.machine.top.operands < 255) (sym c.self.view_is) c.requires
    in
    let all : c.self.inside.callers.1 + length c.self.inside.callers.0 ≡ 63 = c.self.invariant.0 in
    (room_for_one c.self.inside.width c.self.inside.here c.self.inside.callers.0 c.self.inside.slots c.self.inside.operands c.self.inside.handlers (omega arith) c.self.invariant.1 fewer).0

pub invariant_of-self : goal.invariant_of-self
invariant_of-self c =
    let fewer : length (take c.self.inside.here.height c.self.inside.operands.0) < 255 =
    subst (λ held. length held.machine.top.operands < 255) (sym c.self.view_is) c.requires
    in
    let all : c.self.inside.callers.1 + length c.self.inside.callers.0 ≡ 63 = c.self.invariant.0 in
    let room : (1 ≤ c.self.inside.operands.1) × (c.self.inside.here.height < 255) =
    room_for_one c.self.inside.width c.self.inside.here c.self.inside.callers.0 c.self.inside.slots c.self.inside.operands c.self.inside.handlers (omega arith) c.self.invariant.1 fewer
    in (
      c.self.invariant.0,
      subst
          (λ operands. IsLaidOut c.self.inside.width (record c.self.inside.here { height = c.self.inside.here.height + 1 } ∷ c.self.inside.callers.0) c.self.inside.slots operands c.self.inside.handlers)
          (sym c.push.ensures)
          (pushed c.self.inside.width c.self.inside.here c.self.inside.callers.0 c.self.inside.slots c.self.inside.operands c.self.inside.handlers _ room.1 room.0 c.self.invariant.1),
    )
