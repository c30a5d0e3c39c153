-- The events that the lanes hold at a counter: which they are, by number, and how many.
use Rattle.std.proofs.Common.{◌≡◌, ◌<◌, ◌≤◌, ◌+◌, ℕ, zero, suc, Bool, true, false, List, [], ◌∷◌, ◌++◌, map, set, get_or, length, refl, ap, ◌∙◌, sym, subst, arith, length-append}
use Rattle.std.specs.Prelude.{Some, filter, flat_map, nat_lt, nat_le, nat_eq, not, ◌==◌, ◌&&◌}
use Rattle.std.specs.List.{list_all, range_with_len, IsDistinct}
use Rattle.std.specs.Map.{keys_of}
use Rattle.std.proofs.lemmas.Bool.Decides.{nat_tests}
use Rattle.std.proofs.lemmas.List.Filters.{length-filter_both}
use Rattle.std.proofs.lemmas.List.Folds.{list_all-append}
use Rattle.std.proofs.lemmas.Map.Made.{IsDistinct-keys_filter}
use Rattle.rtio_types.specs.declared.event.Event.{Event}
use Rattle.rtio_types.specs.Time.{cycle_of}
use Rattle.sed_lanes.specs.Accepted.{accepted_since_clearing}
use Rattle.sed_lanes.specs.Calls.{all_held_after, all_held_from, held_at, is_new_number, without}
use Rattle.sed_lanes.specs.Heads.{by_number, is_earlier}
use Rattle.sed_lanes.specs.Judged.{Judged, LaneStep, Submitted, Cleared, accepted_into, judged, lane_of, lanes_after, next_number}
use Rattle.sed_lanes.specs.Lanes.{LaneState, LanesState, empty_lane, held_events, with_accepted}
use Rattle.sed_lanes.specs.Verdict.{Verdict, Underflow, Lane, Sequence, Undecided, verdict}
use Rattle.sed_lanes.proofs.Emptying.{held-drained}
use Rattle.sed_lanes.proofs.Growing.{each-judged}
use Rattle.sed_lanes.proofs.Held.{held-permuted}
use Rattle.sed_lanes.proofs.InOrder.{AreNumbersBelow, all-permuted, filter-by_number, numbers-below-later, numbers-below-push, permuted-by_number, permuted-distinct, rising-number-push, rising-part}
use Rattle.sed_lanes.proofs.Numbers.{next-number-submitted}
use Rattle.sed_lanes.proofs.Since.{accepted-since-cleared, accepted-since-taken, accepted-since-unplaced, among}
use Rattle.sed_lanes.proofs.Unplaced.{IsUnplaced}
use Rattle.sed_lanes.proofs.Uniques.{IsRising}

-- events by number, all below the next one
pub record AreInTurn (events : List (ℕ × Event)) (next : ℕ) : Type 0 where
  pub rise : IsRising is_earlier events
  pub below : AreNumbersBelow next events

-- one event more, with the next number
pub in-turn-push : (events : List (ℕ × Event)) (number : ℕ) (e : Event) → AreInTurn events number → AreInTurn (events ++ (number, e) ∷ []) (number + 1)
in-turn-push events number e h = record {
  rise = rising-number-push events (number, e) h.rise h.below;
  below = numbers-below-push (number + 1) events (number, e) (numbers-below-later number (number + 1) events (omega arith) h.below) (omega arith);
}

-- the next number may be a later one
pub in-turn-later : (events : List (ℕ × Event)) (next : ℕ) → AreInTurn events next → AreInTurn events (next + 1)
in-turn-later events next h = record { rise = h.rise; below = numbers-below-later next (next + 1) events (omega arith) h.below }

-- the accepted events since the last clearing come by number
pub accepted-in-turn : (lanes depth : ℕ) (steps : List LaneStep) → AreInTurn (accepted_since_clearing (judged lanes depth steps)) (next_number (judged lanes depth steps))
accepted-in-turn lanes depth steps =
    each-judged lanes depth (λ (j : List Judged). AreInTurn (accepted_since_clearing j) (next_number j)) (record { rise = tt; below = tt })
    (λ old at e h. submitted old at e (verdict (lanes_after lanes depth old at) e at) h)
    (λ old at h. subst (λ (ps : List (ℕ × Event)). AreInTurn ps (next_number (old ++ Cleared at ∷ []))) (sym (accepted-since-cleared old at)) (record { rise = tt; below = tt })) steps
  where
    submitted : (old : List Judged) (at : ℕ) (e : Event) (v : Verdict) → AreInTurn (accepted_since_clearing old) (next_number old) → AreInTurn (accepted_since_clearing (old ++ Submitted (next_number old) at e v ∷ [])) (next_number (old ++ Submitted (next_number old) at e v ∷ []))
    submitted old at e v h = subst (AreInTurn (accepted_since_clearing (old ++ Submitted (next_number old) at e v ∷ []))) (sym (next-number-submitted old (next_number old) at e v)) (by-verdict v)
      where
        same : (w : Verdict) → IsUnplaced w → AreInTurn (accepted_since_clearing (old ++ Submitted (next_number old) at e w ∷ [])) (next_number old + 1)
        same w un =
            subst (λ (ps : List (ℕ × Event)). AreInTurn ps (next_number old + 1)) (sym (accepted-since-unplaced old (next_number old) at e w un))
            (in-turn-later (accepted_since_clearing old) (next_number old) h)

        by-verdict : (w : Verdict) → AreInTurn (accepted_since_clearing (old ++ Submitted (next_number old) at e w ∷ [])) (next_number old + 1)
        by-verdict Underflow = same Underflow tt
        by-verdict (Lane k) =
            subst (λ (ps : List (ℕ × Event)). AreInTurn ps (next_number old + 1)) (sym (accepted-since-taken old (next_number old) at e k))
            (in-turn-push (accepted_since_clearing old) (next_number old) e h)
        by-verdict Sequence = same Sequence tt
        by-verdict Undecided = same Undecided tt

-- the events of a later cycle
abbrev pub after : ℕ → List (ℕ × Event) → List (ℕ × Event)
after counter events = filter (λ p. nat_lt counter (cycle_of p.1)) events

later-rise : (lanes depth : ℕ) (steps : List LaneStep) (counter : ℕ) → IsRising is_earlier (after counter (accepted_since_clearing (judged lanes depth steps)))
later-rise lanes depth steps counter = rising-part is_earlier _ _ (accepted-in-turn lanes depth steps).rise

-- by number, the held events are those that were accepted since the last clearing with a later cycle
pub held-by_number : (lanes depth : ℕ) (steps : List LaneStep) (counter : ℕ) → 1 ≤ lanes → by_number (held_events (lanes_after lanes depth (judged lanes depth steps) counter)) ≡ after counter (accepted_since_clearing (judged lanes depth steps))
held-by_number lanes depth steps counter some =
    permuted-by_number _ _ (held-permuted lanes depth (judged lanes depth steps) counter (among lanes depth steps some)) (later-rise lanes depth steps counter)

-- and those of one cycle are their part of that cycle
pub held_at-by_number : (lanes depth : ℕ) (steps : List LaneStep) (counter cycle : ℕ) → 1 ≤ lanes → by_number (held_at cycle (lanes_after lanes depth (judged lanes depth steps) counter)) ≡ filter (λ p. cycle_of p.1 == cycle) (after counter (accepted_since_clearing (judged lanes depth steps)))
held_at-by_number lanes depth steps counter cycle some =
    sym (filter-by_number (λ p. cycle_of p.1 == cycle) (held_events (lanes_after lanes depth (judged lanes depth steps) counter)))
    ∙ ap (filter (λ p. cycle_of p.1 == cycle)) (held-by_number lanes depth steps counter some)

-- no two held events have one number
pub held-numbers-distinct : (lanes depth : ℕ) (steps : List LaneStep) (counter : ℕ) → 1 ≤ lanes → IsDistinct nat_eq (keys_of (held_events (lanes_after lanes depth (judged lanes depth steps) counter)))
held-numbers-distinct lanes depth steps counter some =
    permuted-distinct _ _ (held-permuted lanes depth (judged lanes depth steps) counter (among lanes depth steps some)) (later-rise lanes depth steps counter)

pub held_at-numbers-distinct : (lanes depth : ℕ) (steps : List LaneStep) (counter cycle : ℕ) → 1 ≤ lanes → IsDistinct nat_eq (keys_of (held_at cycle (lanes_after lanes depth (judged lanes depth steps) counter)))
held_at-numbers-distinct lanes depth steps counter cycle some =
    IsDistinct-keys_filter nat_eq (λ p. cycle_of p.1 == cycle) (held_events (lanes_after lanes depth (judged lanes depth steps) counter)) (held-numbers-distinct lanes depth steps counter some)

below-part : (number : ℕ) (test : ℕ × Event → Bool) (events : List (ℕ × Event)) → AreNumbersBelow number events → list_all (λ p. nat_lt p.0 number) (filter test events) ≡ true
below-part number test [] below = refl
below-part number test (p ∷ rest) below = part (test p) refl (below-part number test rest below.1)
  where
    part : (b : Bool) → test p ≡ b → list_all (λ q. nat_lt q.0 number) (filter test rest) ≡ true → list_all (λ q. nat_lt q.0 number) (filter test (p ∷ rest)) ≡ true
    part true is ih =
        let first = below.0 in
        let lt : nat_lt p.0 number ≡ true = grind (arith, nat_tests, first) in
        rw (is, lt) ih
    part false is ih = rw is ih

-- the next number is a new one
pub held-new-number : (lanes depth : ℕ) (steps : List LaneStep) (counter : ℕ) → 1 ≤ lanes → is_new_number (next_number (judged lanes depth steps)) (lanes_after lanes depth (judged lanes depth steps) counter) ≡ true
held-new-number lanes depth steps counter some =
    all-permuted (λ p. nat_lt p.0 (next_number (judged lanes depth steps))) _ _
    (held-permuted lanes depth (judged lanes depth steps) counter (among lanes depth steps some))
    (below-part (next_number (judged lanes depth steps)) _ _ (accepted-in-turn lanes depth steps).below)

passes-filter : (test : ℕ × Event → Bool) (events : List (ℕ × Event)) → list_all test (filter test events) ≡ true
passes-filter test [] = refl
passes-filter test (p ∷ rest) = part (test p) refl (passes-filter test rest)
  where
    part : (b : Bool) → test p ≡ b → list_all test (filter test rest) ≡ true → list_all test (filter test (p ∷ rest)) ≡ true
    part true is ih = rw (is, is) ih
    part false is ih = rw is ih

-- the held events are of later cycles
pub held-later : (lanes depth : ℕ) (judged : List Judged) (counter : ℕ) → all_held_after counter (lanes_after lanes depth judged counter) ≡ true
held-later lanes depth judged counter = each (range_with_len 0 lanes)
  where
    each : (ks : List ℕ) → list_all (λ p. nat_lt counter (cycle_of p.1)) (flat_map (λ (lane : LaneState). lane.held) (map (λ k. lane_of counter (accepted_into k judged)) ks)) ≡ true
    each [] = refl
    each (k ∷ ks) =
        list_all-append (λ p. nat_lt counter (cycle_of p.1)) (lane_of counter (accepted_into k judged)).held _
        ∙ ap (λ b. b && list_all (λ p. nat_lt counter (cycle_of p.1)) (flat_map (λ (lane : LaneState). lane.held) (map (λ j. lane_of counter (accepted_into j judged)) ks))) (passes-filter (λ p. nat_lt counter (cycle_of p.1)) (accepted_into k judged))
        ∙ each ks

-- so they are of the next cycle or of later ones
pub held-from-next : (counter : ℕ) (s : LanesState) → all_held_after counter s ≡ true → all_held_from (counter + 1) s ≡ true
held-from-next counter s all = each (held_events s) all
  where
    and-true : (a b : Bool) → (a && b) ≡ true → (a ≡ true) × (b ≡ true)
    and-true true b h = (refl, h)
    and-true false b h = absurd (cc)

    each : (events : List (ℕ × Event)) → list_all (λ p. nat_lt counter (cycle_of p.1)) events ≡ true → list_all (λ p. nat_le (counter + 1) (cycle_of p.1)) events ≡ true
    each [] later = refl
    each (p ∷ rest) later =
        let parts = and-true (nat_lt counter (cycle_of p.1)) _ later in
        let first : nat_le (counter + 1) (cycle_of p.1) ≡ true = grind (arith, nat_tests, parts.0) in
        rw first (each rest parts.1)

pub held-from : (lanes depth : ℕ) (judged : List Judged) (counter : ℕ) → all_held_from (counter + 1) (lanes_after lanes depth judged counter) ≡ true
held-from lanes depth judged counter = held-from-next counter (lanes_after lanes depth judged counter) (held-later lanes depth judged counter)

-- how many are held: one more when an event is accepted
pub length-held-accepted : (s : LanesState) (k number : ℕ) (e : Event) → k < length s.lanes → length (held_events (with_accepted s k number e)) ≡ length (held_events s) + 1
length-held-accepted s k number e lt = one-more s.lanes k (record { held = (get_or s.lanes k empty_lane).held ++ (number, e) ∷ []; last = Some (cycle_of e) }) lt refl
  where
    one-more : (lanes : List LaneState) (k : ℕ) (new : LaneState) → k < length lanes → new.held ≡ (get_or lanes k empty_lane).held ++ (number, e) ∷ [] → length (flat_map (λ (lane : LaneState). lane.held) (set lanes k new)) ≡ length (flat_map (λ (lane : LaneState). lane.held) lanes) + 1
    one-more [] k new lt is = absurd (omega (arith, lt))
    one-more (lane ∷ lanes) zero new lt is =
        let long : length new.held ≡ length lane.held + 1 = ap (λ (ps : List (ℕ × Event)). length ps) is ∙ length-append lane.held ((number, e) ∷ []) in
        let before = length-append lane.held (flat_map (λ (l : LaneState). l.held) lanes) in
        let behind = length-append new.held (flat_map (λ (l : LaneState). l.held) lanes) in
        omega (arith, long, before, behind)
    one-more (lane ∷ lanes) (suc k) new lt is =
        let less : k < length lanes = omega (arith, lt) in
        let ih = one-more lanes k new less is in
        let before = length-append lane.held (flat_map (λ (l : LaneState). l.held) lanes) in
        let behind = length-append lane.held (flat_map (λ (l : LaneState). l.held) (set lanes k new)) in
        omega (arith, ih, before, behind)

-- and when the events of a cycle are taken out, as many fewer
pub length-held-without : (cycle : ℕ) (s : LanesState) → length (held_events (without cycle s)) + length (held_at cycle s) ≡ length (held_events s)
length-held-without cycle s =
    let left : length (held_events (without cycle s)) ≡ length (filter (λ p. not (cycle_of p.1 == cycle)) (held_events s)) = ap (λ (ps : List (ℕ × Event)). length ps) (held-drained cycle s.lanes) in
    let both : length (filter (λ p. cycle_of p.1 == cycle) (held_events s)) + length (filter (λ p. not (cycle_of p.1 == cycle)) (held_events s)) ≡ length (held_events s) =
    length-filter_both (λ p. cycle_of p.1 == cycle) (λ p. not (cycle_of p.1 == cycle)) (λ p. refl) (held_events s) in
    omega (arith, left, both)
