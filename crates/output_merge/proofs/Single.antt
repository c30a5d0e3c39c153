-- An event that is alone in its cycle: it is put out, nothing collides, and a sieve takes all or nothing.
use Rattle.std.proofs.Common.{◌≡◌, ℕ, Bool, true, false, List, [], ◌∷◌, length, refl, ap, ◌∙◌, sym, cond, arith}
use Rattle.std.specs.Prelude.{Some, filter, not, ◌==◌, ◌&&◌}
use Rattle.std.specs.List.{slice_get}
use Rattle.std.proofs.lemmas.Bool.{and_parts, eq-eqb, eqb-true}
use Rattle.std.proofs.lemmas.Option.{same_Some}
use Rattle.rtio_types.specs.declared.event.Event.{Event}
use Rattle.rtio_types.specs.Time.{cycle_of}
use Rattle.sed_lanes.specs.Heads.{by_number}
use Rattle.sed_lanes.specs.Sorting.{sorted}
use Rattle.output_merge.specs.Groups.{collisions, is_logged_before, keepers, part_in, part_of}
use Rattle.output_merge.specs.Merge.{are_of_cycle}
use Rattle.output_merge.specs.declared.group.Part.TheVariants.{Keeper}
use Rattle.output_merge.proofs.Alone.{alone-keeper}

-- it is a group of its own
own-part : (p : ℕ × Event) → part_of (p ∷ []) p ≡ Keeper
own-part p = ap (λ (b : Bool). part_in (cond b (p ∷ []) []) p) own-group ∙ alone-keeper p
  where
    own-group : ((p.1.channel == p.1.channel) && (cycle_of p.1 == cycle_of p.1)) ≡ true
    own-group = rw (eq-eqb p.1.channel p.1.channel refl, eq-eqb (cycle_of p.1) (cycle_of p.1) refl) refl

pub single-kept : (events : List (ℕ × Event)) → length events ≡ 1 → keepers (by_number events) ≡ events
single-kept [] one = absurd (omega (arith, one))
single-kept (p ∷ []) one = rw (own-part p) refl
single-kept (p ∷ q ∷ rest) one = absurd (omega (arith, one))

pub single-collisions : (events : List (ℕ × Event)) → length events ≡ 1 → collisions (by_number events) ≡ []
single-collisions [] one = absurd (omega (arith, one))
single-collisions (p ∷ []) one = rw (own-part p) refl
single-collisions (p ∷ q ∷ rest) one = absurd (omega (arith, one))

-- the only event of a list
pub single-is : (events : List (ℕ × Event)) (p : ℕ × Event) → length events ≡ 1 → slice_get events 0 ≡ Some p → events ≡ p ∷ []
single-is [] p one is = absurd (omega (arith, one))
single-is (q ∷ []) p one is = ap (λ (r : ℕ × Event). r ∷ []) (same_Some q p is)
single-is (q ∷ r ∷ rest) p one is = absurd (omega (arith, one))

pub single-cycle : (cycle : ℕ) (events : List (ℕ × Event)) (p : ℕ × Event) → events ≡ p ∷ [] → are_of_cycle cycle events ≡ true → cycle_of p.1 ≡ cycle
single-cycle cycle events p alone all =
    let one : are_of_cycle cycle (p ∷ []) ≡ true = ap (are_of_cycle cycle) (sym alone) ∙ all in
    eqb-true (cycle_of p.1) cycle (and_parts (cycle_of p.1 == cycle) true one).0

-- a sieve takes it
pub single-leaves : (test : ℕ × Event → Bool) (events : List (ℕ × Event)) (p : ℕ × Event) → events ≡ p ∷ [] → test p ≡ true → ([] ≡ filter (λ q. not (test q)) events) × (p ∷ [] ≡ sorted is_logged_before (filter test events))
single-leaves test events p alone passes = rw (alone, passes) (refl, refl)

-- or leaves it
pub single-stays : (test : ℕ × Event → Bool) (events : List (ℕ × Event)) (p : ℕ × Event) → events ≡ p ∷ [] → test p ≡ false → (events ≡ filter (λ q. not (test q)) events) × ([] ≡ sorted is_logged_before (filter test events))
single-stays test events p alone fails = rw (alone, fails) (refl, refl)
