-- The greatest cycle of the live events, with one step or one cycle more.
use Rattle.std.proofs.Common.{◌≡◌, ◌<◌, ◌≤◌, ◌+◌, ℕ, Bool, true, false, List, [], ◌∷◌, ◌++◌, length, refl, ap, ◌∙◌, sym, arith}
use Rattle.std.specs.Prelude.{fold, max, nat_le, ◌==◌}
use Rattle.std.proofs.lemmas.Bool.Decides.{nat_tests}
use Rattle.std.proofs.lemmas.List.Sums.{fold-append}
use Rattle.rtio_types.specs.declared.event.Event.{Event}
use Rattle.rtio_types.specs.Time.{cycle_of}
use Rattle.sed_lanes.specs.Calls.{held_at}
use Rattle.sed_lanes.specs.Counters.{NeverFall}
use Rattle.sed_lanes.specs.Heads.{by_number, is_earlier}
use Rattle.sed_lanes.specs.Judged.{Judged, LaneStep, Cleared, judged, lanes_after}
use Rattle.output_merge.specs.Live.{greatest_cycle, live}
use Rattle.output_merge.specs.Outputs.{up_to}
use Rattle.output_merge.proofs.Histories.{live-cleared, of_cycle}
use Rattle.output_merge.proofs.LiveHeld.{held_at-live}
use Rattle.output_merge.proofs.Ticks.{length-sorted}

-- one event more
pub greatest-accepted : (events : List (ℕ × Event)) (p : ℕ × Event) → greatest_cycle (events ++ p ∷ []) ≡ max (greatest_cycle events) (cycle_of p.1)
greatest-accepted events p = fold-append _ _ events (p ∷ [])

-- after a clearing
pub greatest-cleared : (judged : List Judged) (at : ℕ) → greatest_cycle (live (judged ++ Cleared at ∷ [])) ≡ greatest_cycle (up_to at (live judged))
greatest-cleared judged at = ap greatest_cycle (live-cleared judged at)

abbrev greatest-from : ℕ → List (ℕ × Event) → ℕ
greatest-from start events = fold (λ greatest p. max greatest (cycle_of p.1)) start events

at-least-start : (start : ℕ) (events : List (ℕ × Event)) → start ≤ greatest-from start events
at-least-start start [] = omega arith
at-least-start start (p ∷ rest) = let ih = at-least-start (max start (cycle_of p.1)) rest in omega (arith, ih)

-- with those up to a cycle, of events up to the next one
up-to-most : (start cycle : ℕ) (events : List (ℕ × Event)) → start ≤ cycle → greatest-from start (up_to cycle events) ≤ cycle
up-to-most start cycle [] le = le
up-to-most start cycle (p ∷ rest) le = part (nat_le (cycle_of p.1) cycle) refl (λ (n : ℕ) (most : n ≤ cycle). up-to-most n cycle rest most)
  where
    part : (b : Bool) → nat_le (cycle_of p.1) cycle ≡ b → ((n : ℕ) → n ≤ cycle → greatest-from n (up_to cycle rest) ≤ cycle) → greatest-from start (up_to cycle (p ∷ rest)) ≤ cycle
    part true is ih =
        let here : cycle_of p.1 ≤ cycle = grind (arith, nat_tests, is) in
        let both : max start (cycle_of p.1) ≤ cycle = omega (arith, here, le) in
        rw is (ih (max start (cycle_of p.1)) both)
    part false is ih = rw is (ih start le)

-- no event up to a cycle is of a later one
pub greatest-up_to : (cycle : ℕ) (events : List (ℕ × Event)) → greatest_cycle (up_to cycle events) ≤ cycle
greatest-up_to cycle events = up-to-most 0 cycle events (omega arith)

reaches : (start cycle : ℕ) (events : List (ℕ × Event)) → 0 < length (of_cycle cycle events) → cycle ≤ greatest-from start (up_to cycle events)
reaches start cycle [] some = absurd (omega (arith, some))
reaches start cycle (p ∷ rest) some = part (cycle_of p.1 == cycle) refl (λ (n : ℕ) (more : 0 < length (of_cycle cycle rest)). reaches n cycle rest more) some
  where
    part : (b : Bool) → (cycle_of p.1 == cycle) ≡ b → ((n : ℕ) → 0 < length (of_cycle cycle rest) → cycle ≤ greatest-from n (up_to cycle rest)) → 0 < length (of_cycle cycle (p ∷ rest)) → cycle ≤ greatest-from start (up_to cycle (p ∷ rest))
    part true is ih more =
        let same : cycle_of p.1 ≡ cycle = grind (arith, nat_tests, is) in
        let within : nat_le (cycle_of p.1) cycle ≡ true = grind (arith, nat_tests, same) in
        let least = at-least-start (max start (cycle_of p.1)) (up_to cycle rest) in
        rw within (omega (arith, least, same))
    part false is ih more =
        let other : 0 < length (of_cycle cycle rest) = rw is at more in
        by-cycle (nat_le (cycle_of p.1) cycle) refl other
      where
        by-cycle : (b : Bool) → nat_le (cycle_of p.1) cycle ≡ b → 0 < length (of_cycle cycle rest) → cycle ≤ greatest-from start (up_to cycle (p ∷ rest))
        by-cycle true within other = rw within (ih (max start (cycle_of p.1)) other)
        by-cycle false within other = rw within (ih start other)

-- where there is an event of the cycle, it is the greatest up to it
pub greatest-reached : (cycle : ℕ) (events : List (ℕ × Event)) → 0 < length (of_cycle cycle events) → greatest_cycle (up_to cycle events) ≡ cycle
greatest-reached cycle events some =
    let most = greatest-up_to cycle events in
    let least = reaches 0 cycle events some in
    omega (arith, most, least)

-- where there is none of the next cycle, those up to it are those up to this one
pub up_to-none : (cycle : ℕ) (events : List (ℕ × Event)) → of_cycle (cycle + 1) events ≡ [] → up_to (cycle + 1) events ≡ up_to cycle events
up_to-none cycle [] none = refl
up_to-none cycle (p ∷ rest) none = part (cycle_of p.1 == cycle + 1) refl (up_to-none cycle rest) none
  where
    part : (b : Bool) → (cycle_of p.1 == cycle + 1) ≡ b → (of_cycle (cycle + 1) rest ≡ [] → up_to (cycle + 1) rest ≡ up_to cycle rest) → of_cycle (cycle + 1) (p ∷ rest) ≡ [] → up_to (cycle + 1) (p ∷ rest) ≡ up_to cycle (p ∷ rest)
    part true is same some = let there : p ∷ of_cycle (cycle + 1) rest ≡ [] = rw is at some in absurd (cc)
    part false is same some =
        let other : of_cycle (cycle + 1) rest ≡ [] = rw is at some in
        let ih = same other in
        grind (arith, nat_tests, is, ih)

-- a tick that finds no event leaves the greatest cycle
pub greatest-tick-none : (lanes depth : ℕ) (steps : List LaneStep) (counter : ℕ) → 1 ≤ lanes → NeverFall 0 steps counter → held_at (counter + 1) (lanes_after lanes depth (judged lanes depth steps) counter) ≡ [] → greatest_cycle (up_to (counter + 1) (live (judged lanes depth steps))) ≡ greatest_cycle (up_to counter (live (judged lanes depth steps)))
greatest-tick-none lanes depth steps counter some in_time none =
    let next : counter < counter + 1 = omega arith in
    let held : of_cycle (counter + 1) (live (judged lanes depth steps)) ≡ [] = sym (held_at-live lanes depth steps counter (counter + 1) some in_time next) ∙ ap by_number none in
    ap greatest_cycle (up_to-none counter (live (judged lanes depth steps)) held)

-- one that finds some leaves its cycle
pub greatest-tick-some : (lanes depth : ℕ) (steps : List LaneStep) (counter : ℕ) → 1 ≤ lanes → NeverFall 0 steps counter → 0 < length (held_at (counter + 1) (lanes_after lanes depth (judged lanes depth steps) counter)) → greatest_cycle (up_to (counter + 1) (live (judged lanes depth steps))) ≡ counter + 1
greatest-tick-some lanes depth steps counter some in_time more =
    let next : counter < counter + 1 = omega arith in
    let held : length (held_at (counter + 1) (lanes_after lanes depth (judged lanes depth steps) counter)) ≡ length (of_cycle (counter + 1) (live (judged lanes depth steps))) =
    sym (length-sorted is_earlier (held_at (counter + 1) (lanes_after lanes depth (judged lanes depth steps) counter)))
    ∙ ap (λ (ps : List (ℕ × Event)). length ps) (held_at-live lanes depth steps counter (counter + 1) some in_time next) in
    greatest-reached (counter + 1) (live (judged lanes depth steps)) (omega (arith, held, more))

all-up-to : (start cycle : ℕ) (events : List (ℕ × Event)) → greatest-from start events ≤ cycle → up_to cycle events ≡ events
all-up-to start cycle [] le = refl
all-up-to start cycle (p ∷ rest) le =
    let least = at-least-start (max start (cycle_of p.1)) rest in
    let here : nat_le (cycle_of p.1) cycle ≡ true = grind (arith, nat_tests, least, le) in
    rw here (ap (λ (ps : List (ℕ × Event)). p ∷ ps) (all-up-to (max start (cycle_of p.1)) cycle rest le))

-- events whose greatest cycle is reached are all up to it
pub up_to-all : (cycle : ℕ) (events : List (ℕ × Event)) → greatest_cycle events ≤ cycle → up_to cycle events ≡ events
up_to-all cycle events le = all-up-to 0 cycle events le

-- those up to a cycle have no greater cycle than all
pub greatest-part : (cycle : ℕ) (events : List (ℕ × Event)) → greatest_cycle (up_to cycle events) ≤ greatest_cycle events
greatest-part cycle events = from 0 0 events (omega arith)
  where
    from : (low high : ℕ) (some : List (ℕ × Event)) → low ≤ high → greatest-from low (up_to cycle some) ≤ greatest-from high some
    from low high [] le = le
    from low high (p ∷ rest) le = part (nat_le (cycle_of p.1) cycle) refl (λ (n m : ℕ) (less : n ≤ m). from n m rest less)
      where
        part : (b : Bool) → nat_le (cycle_of p.1) cycle ≡ b → ((n m : ℕ) → n ≤ m → greatest-from n (up_to cycle rest) ≤ greatest-from m rest) → greatest-from low (up_to cycle (p ∷ rest)) ≤ greatest-from high (p ∷ rest)
        part true is ih = rw is (ih (max low (cycle_of p.1)) (max high (cycle_of p.1)) (omega (arith, le)))
        part false is ih = rw is (ih low (max high (cycle_of p.1)) (omega (arith, le)))
