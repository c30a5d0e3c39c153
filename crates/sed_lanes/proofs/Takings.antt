-- What is taken out of a lane, and what is left.
use Rattle.std.proofs.Common.{◌≡◌, ◌≢◌, ◌<◌, ℕ, Bool, true, false, List, [], ◌∷◌, drop, refl, ap, ◌∙◌, sym, arith}
use Rattle.std.specs.Prelude.{Option, None, filter, not, ◌==◌, nat_le, ◌&&◌, option_to_list, slice_get}
use Rattle.std.specs.List.{list_all}
use Rattle.std.proofs.lemmas.Bool.Decides.{nat_tests}
use Rattle.rtio_types.specs.declared.event.Event.{Event}
use Rattle.rtio_types.specs.Time.{cycle_of}
use Rattle.sed_lanes.specs.Queue.{IsFirst, front_cycle}
use Rattle.sed_lanes.specs.Rows.{are_rising}
use Rattle.sed_lanes.proofs.Risings.{first-of-cycle, first-later}

-- what is taken, and what is left
pub record IsTaken (cycle : ℕ) (held left : List (ℕ × Event)) (front : Option (ℕ × Event)) : Type 0 where
  pub taken : option_to_list front ≡ filter (λ p. cycle_of p.1 == cycle) held
  pub kept : left ≡ filter (λ p. not (cycle_of p.1 == cycle)) held

-- where the first event is of the cycle
pub taken-first : (cycle first : ℕ) (held left : List (ℕ × Event)) (front : Option (ℕ × Event)) → are_rising held ≡ true → IsFirst first (front_cycle held) → first ≡ cycle → front ≡ slice_get held 0 → left ≡ drop 1 held → IsTaken cycle held left front
taken-first cycle first [] left front rise keeps is one rest = record { taken = ap option_to_list one; kept = rest }
taken-first cycle first (p ∷ hs) left front rise keeps is one rest =
    let others = first-of-cycle cycle p hs rise (sym keeps.0 ∙ is) in
    record { taken = ap option_to_list one ∙ sym others.0; kept = rest ∙ sym others.1 }

-- where it isn't
pub taken-none : (cycle first : ℕ) (held : List (ℕ × Event)) → are_rising held ≡ true → list_all (λ p. nat_le cycle (cycle_of p.1)) held ≡ true → IsFirst first (front_cycle held) → first ≢ cycle → IsTaken cycle held held None
taken-none cycle first [] rise from keeps other = record { taken = refl; kept = refl }
taken-none cycle first (p ∷ hs) rise from keeps other =
    let here : nat_le cycle (cycle_of p.1) ≡ true = left-true _ _ from in
    let is : first ≡ cycle_of p.1 = keeps.0 in
    let later : cycle < cycle_of p.1 = grind (arith, nat_tests, here, is, other) in
    let none = first-later cycle p hs rise later in
    record { taken = sym none.0; kept = sym none.1 }
  where
    left-true : (a b : Bool) → (a && b) ≡ true → a ≡ true
    left-true true b h = refl
    left-true false b h = absurd (cc)
