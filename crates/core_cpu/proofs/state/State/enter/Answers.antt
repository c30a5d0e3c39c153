use Rattle.std.proofs.Common.{◌≡◌, ℕ, suc, ◌+◌, ◌-◌, ◌<◌, ◌≤◌, List, ◌∷◌, length, take, reverse, replicate, sym, subst, ap, ◌∙◌, arith}
use Rattle.std.specs.Prelude.{ℤ, pos}
use Rattle.std.proofs.lemmas.List.{length-append, length-drop, length-replicate, length-reverse, length-take, length-take-le}
use Rattle.core_isa.specs.declared.code.CodeFunction.{CodeFunction}
use Rattle.core_cpu.specs.Layout.{IsLaidOut}
use Rattle.core_cpu.specs.declared.layout.Activation.{Activation}
use Rattle.core_cpu.proofs.Entering.{entered_front, entered_callers}
use Rattle.core_cpu.proofs.FrameCount.{frames_count}
use Rattle.core_cpu.proofs.Room.{room_for_frame, entered}
use Rattle.core_cpu.proofs.state.State.enter.Goals as goal

pub push-requires : goal.push-requires
push-requires c =
    let s = c.self.inside in
    let few : length s.callers.0 < 63 = rw (← c.self.view_is, frames_count) at c.requires.room in
    let all : s.callers.1 + length s.callers.0 ≡ 63 = c.self.invariant.0 in
    omega arith

pub fill-requires : goal.fill-requires
fill-requires c =
    let s = c.self.inside in
    let few : length s.callers.0 < 63 = rw (← c.self.view_is, frames_count) at c.requires.room in
    let narrow : c.args.function.slots ≤ s.width = rw (← c.self.view_is) at c.requires.slots in
    let room : c.args.function.slots ≤ s.slots.1 =
    room_for_frame s.width s.here s.callers.0 s.slots s.operands s.handlers c.args.function.slots few c.self.invariant.1 narrow
    in
    omega arith

pub take_over-requires-clause-room : goal.take_over-requires-clause-room
take_over-requires-clause-room c =
    let s = c.self.inside in
    let few : length s.callers.0 < 63 = rw (← c.self.view_is, frames_count) at c.requires.room in
    let narrow : c.args.function.slots ≤ s.width = rw (← c.self.view_is) at c.requires.slots in
    let room : c.args.function.slots ≤ s.slots.1 =
    room_for_frame s.width s.here s.callers.0 s.slots s.operands s.handlers c.args.function.slots few c.self.invariant.1 narrow
    in
    let filled : c.fill.new.self.1 ≡ s.slots.1 - (c.args.function.slots - c.args.function.params) = ap (λ (x : List ℤ × ℕ). x.1) c.fill.ensures in
    let fits : c.args.function.params ≤ c.args.function.slots = c.requires.parameters in
    omega arith

pub invariant_of-self : goal.invariant_of-self
invariant_of-self c =
    let s = c.self.inside in
    let f : CodeFunction = c.args.function in
    let fits : f.params ≤ f.slots = c.requires.parameters in
    let few : length s.callers.0 < 63 = rw (← c.self.view_is, frames_count) at c.requires.room in
    let narrow : f.slots ≤ s.width = rw (← c.self.view_is) at c.requires.slots in
    let there : f.params ≤ length (take s.here.height s.operands.0) = rw (← c.self.view_is) at c.requires.arguments in
    let short : f.params ≤ s.here.height = omega (arith, length-take s.here.height s.operands.0) in
    let lie : f.params ≤ length s.operands.0 = omega (arith, length-take s.here.height s.operands.0) in
    let room : f.slots ≤ s.slots.1 =
    room_for_frame s.width s.here s.callers.0 s.slots s.operands s.handlers f.slots few c.self.invariant.1 narrow
    in
    let all : s.callers.1 + length s.callers.0 ≡ 63 = c.self.invariant.0 in
    let more : length c.push.new.self.0 ≡ suc (length s.callers.0) = ap (λ (x : List Activation × ℕ). length x.0) c.push.ensures in
    let less : c.push.new.self.1 ≡ s.callers.1 - 1 = ap (λ (x : List Activation × ℕ). x.1) c.push.ensures in
    let filled : length c.fill.new.self.0 ≡ f.slots - f.params + length s.slots.0 =
    ap (λ (x : List ℤ × ℕ). length x.0) c.fill.ensures
    ∙ length-append (replicate (f.slots - f.params) (pos 0)) s.slots.0
    ∙ ap (λ n. n + length s.slots.0) (length-replicate (f.slots - f.params) (pos 0))
    in
    let filled_room : c.fill.new.self.1 ≡ s.slots.1 - (f.slots - f.params) = ap (λ (x : List ℤ × ℕ). x.1) c.fill.ensures in
    let moved : length c.take_over.new.self.0 ≡ f.params + length c.fill.new.self.0 =
    ap (λ (x : List ℤ × ℕ). length x.0) c.take_over.ensures.put
    ∙ length-append (reverse (take f.params s.operands.0)) c.fill.new.self.0
    ∙ ap (λ n. n + length c.fill.new.self.0) (length-reverse (take f.params s.operands.0) ∙ length-take-le f.params s.operands.0 lie)
    in
    let moved_room : c.take_over.new.self.1 ≡ c.fill.new.self.1 - f.params = ap (λ (x : List ℤ × ℕ). x.1) c.take_over.ensures.put in
    let left : length c.take_over.new.from.0 ≡ length s.operands.0 - f.params =
    ap (λ (x : List ℤ × ℕ). length x.0) c.take_over.ensures.taken ∙ length-drop f.params s.operands.0
    in
    let left_room : c.take_over.new.from.1 ≡ s.operands.1 + f.params = ap (λ (x : List ℤ × ℕ). x.1) c.take_over.ensures.taken in (
      omega arith,
      subst
          (λ frames. IsLaidOut s.width (record { function = f; place = f.first; height = 0; tries = 0 } ∷ frames) c.take_over.new.self c.take_over.new.from s.handlers)
          (sym (ap (λ (x : List Activation × ℕ). x.0) c.push.ensures))
          (entered s.width s.here s.callers.0 s.slots s.operands s.handlers f f.first c.take_over.new.self c.take_over.new.from short narrow room (omega arith) (omega arith) (omega arith) left_room c.self.invariant.1),
    )

pub returns : goal.returns
returns c =
    let s = c.self.inside in
    let f : CodeFunction = c.args.function in
    let there : f.params ≤ length (take s.here.height s.operands.0) = rw (← c.self.view_is) at c.requires.arguments in
    rw
    (c.take_over.ensures.put, c.take_over.ensures.taken, c.fill.ensures, c.push.ensures, ← c.self.view_is)
    (simp
    (entered_front f s.here.height s.slots.0 s.operands.0 there c.requires.parameters, entered_callers f s.here s.callers.0 s.slots.0 s.operands.0 s.handlers.0 there c.requires.parameters))
