use Rattle.std.proofs.Common.{◌≡◌, ℕ, ◌+◌, ◌≤◌, ◌∷◌, length, take, arith, w64}
use Rattle.std.specs.Prelude.{sum_by}
use Rattle.std.proofs.lemmas.Int.{to_z-of_z}
use Rattle.std.proofs.lemmas.List.Sums.{sum_by-cons}
use Rattle.std.proofs.lemmas.List.{length-take, length-replicate}
use Rattle.core_cpu.specs.declared.layout.Activation.{Activation}
use Rattle.core_cpu.proofs.Pieces.{front_filled, behind_filled}
use Rattle.core_cpu.proofs.state.State.fill.Goals as goal

pub returns : goal.returns
returns c =
    let s = c.self.inside in
    let n : ℕ = s.here.function.slots in
    let first : ℕ = c.args.first in
    let count : ℕ = c.args.count in
    let there : first + count ≤ length (take n s.slots.0) = rw (← c.self.view_is) at c.requires in
    let within : first + count ≤ n = omega (arith, length-take n s.slots.0) in
    let whole : sum_by (λ (b : Activation). b.function.slots) (s.here ∷ s.callers.0) ≡ n + sum_by (λ (b : Activation). b.function.slots) s.callers.0 =
    sum_by-cons (λ (b : Activation). b.function.slots) s.here s.callers.0
    in
    let held : length s.slots.0 ≡ sum_by (λ (b : Activation). b.function.slots) (s.here ∷ s.callers.0) = c.self.invariant.1.slots_held in
    let fits : n ≤ length s.slots.0 = omega arith in
    rw
    (c.overwrite.ensures, ← c.self.view_is, to_z-of_z w64 c.args.value c.ranges.value, length-replicate count c.args.value, front_filled n first count s.slots.0 c.args.value within fits, behind_filled n first count s.slots.0 c.args.value within fits)
