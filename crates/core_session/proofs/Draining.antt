-- A core that leaps as far as it may.
use Rattle.std.proofs.Common.{◌≡◌, ◌+◌, ◌-◌, ℕ, ap, ◌∙◌, arith}
use Rattle.std.specs.Prelude.{min}
use Rattle.rtio_core.proofs.Settings.{horizon-most}
use Rattle.rtio_core.specs.Core.{CoreState, IsCore, core_top}
use Rattle.core_session.specs.Timed.{drained}

-- no counter is so far that a leap of 64 bits doesn't reach it
pub leaps-to-top : (old new : CoreState) (count : ℕ) → IsCore old → count ≡ min 18446744073709551615 (core_top old - old.counter) → new ≡ record old { counter = old.counter + count } → new ≡ drained old
leaps-to-top old new count known is after =
    let far = horizon-most old.config known.config in
    let bounded = known.bounded in
    let there : old.counter + count ≡ core_top old = omega (arith, is, bounded, far) in
    after ∙ ap (λ (n : ℕ). record old { counter = n }) there
