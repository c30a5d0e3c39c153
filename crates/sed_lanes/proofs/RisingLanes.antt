-- The cycles of a lane rise, and a lane holds no more events than it may.
use Rattle.std.proofs.Common.{◌≡◌, ◌≢◌, ◌<◌, ◌≤◌, ◌+◌, ℕ, zero, suc, Bool, true, false, List, [], ◌∷◌, ◌++◌, map, length, refl, ap, ◌∙◌, sym, subst, arith, length-append}
use Rattle.std.specs.Prelude.{Option, filter, flat_map, nat_lt, nat_le, not, ◌==◌, ◌&&◌}
use Rattle.std.specs.List.{range_with_len}
use Rattle.std.proofs.lemmas.Bool.{eqb-true}
use Rattle.std.proofs.lemmas.Bool.Decides.{nat_tests}
use Rattle.rtio_types.specs.declared.event.Event.{Event}
use Rattle.rtio_types.specs.Time.{cycle_of}
use Rattle.sed_lanes.specs.Calls.{held_at}
use Rattle.sed_lanes.specs.Counters.{NeverFall}
use Rattle.sed_lanes.specs.Judged.{Judged, LaneStep, Submit, Clear, Submitted, Cleared, accepted_into, judged, lane_of, lanes_after, last_cycle}
use Rattle.sed_lanes.specs.Lanes.{LaneState, LanesState, empty_lane, is_full_lane, is_later, lane_at, may_enter, next_lane}
use Rattle.sed_lanes.specs.Peaks.{held_after, peak_from}
use Rattle.sed_lanes.specs.Rows.{are_rising, are_up_to}
use Rattle.sed_lanes.specs.Verdict.{Verdict, Underflow, Lane, Sequence, Undecided, current_takes, verdict}
use Rattle.sed_lanes.proofs.Emptying.{filter-held}
use Rattle.sed_lanes.proofs.Growing.{each-step, never-fall-front, never-fall-later}
use Rattle.sed_lanes.proofs.Histories.{accepted_into-other, accepted_into-taken, chosen, get_or-map-range, judged-clear, judged-submit, last_cycle-push, lane_of-push, since_clearing-cleared}
use Rattle.sed_lanes.proofs.Peaks.{peak-push}
use Rattle.sed_lanes.proofs.Risings.{first-of-cycle, rising-filter, rising-push, up-to-push}
use Rattle.sed_lanes.proofs.Since.{among, verdict-among}
use Rattle.sed_lanes.proofs.Standing.{IsLaneBelow}
use Rattle.sed_lanes.proofs.Unplaced.{accepted-unplaced}

-- what the lane that takes an event has passed
pub record TakesInTime (s : LanesState) (e : Event) (counter k : ℕ) : Type 0 where
  pub in_time : counter < cycle_of e
  pub room : is_full_lane s k ≡ false
  pub enters : may_enter s k e ≡ true

-- a lane takes an event only in time, with room, and behind an earlier cycle
pub takes-in-time : (s : LanesState) (e : Event) (counter k : ℕ) → verdict s e counter ≡ Lane k → TakesInTime s e counter k
takes-in-time s e counter k is =
    by-tests (nat_le (cycle_of e) counter) (is_full_lane s s.current) (may_enter s s.current e) (may_enter s (next_lane s) e) (is_full_lane s (next_lane s)) refl refl refl refl refl is
  where
    here : (i : ℕ) → nat_le (cycle_of e) counter ≡ false → is_full_lane s i ≡ false → may_enter s i e ≡ true → i ≡ k → TakesInTime s e counter k
    here i late full enters same = subst (TakesInTime s e counter) same (record {
      in_time = grind (arith, nat_tests, late);
      room = full;
      enters = enters;
    })

    by-tests : (late full enters next_enters next_full : Bool) → nat_le (cycle_of e) counter ≡ late → is_full_lane s s.current ≡ full → may_enter s s.current e ≡ enters → may_enter s (next_lane s) e ≡ next_enters → is_full_lane s (next_lane s) ≡ next_full → chosen late (not full && enters) next_enters next_full s.current (next_lane s) ≡ Lane k → TakesInTime s e counter k
    by-tests true full enters next_enters next_full a b c d f h = absurd (cc)
    by-tests false false true next_enters next_full a b c d f h = here s.current a b c cc
    by-tests false false false false next_full a b c d f h = absurd (cc)
    by-tests false false false true false a b c d f h = here (next_lane s) a f d cc
    by-tests false false false true true a b c d f h = absurd (cc)
    by-tests false true enters false next_full a b c d f h = absurd (cc)
    by-tests false true enters true false a b c d f h = here (next_lane s) a f d cc
    by-tests false true enters true true a b c d f h = absurd (cc)

-- an event in time doesn't underflow
pub no-underflow : (s : LanesState) (e : Event) (counter : ℕ) → counter < cycle_of e → verdict s e counter ≢ Underflow
no-underflow s e counter later =
    let not_late : nat_le (cycle_of e) counter ≡ false = grind (arith, nat_tests, later) in
    by-tests (nat_le (cycle_of e) counter) (current_takes s e) (may_enter s (next_lane s) e) (is_full_lane s (next_lane s)) not_late
  where
    by-tests : (late takes enters full : Bool) → late ≡ false → chosen late takes enters full s.current (next_lane s) ≢ Underflow
    by-tests true takes enters full not_late = absurd (cc)
    by-tests false true enters full not_late = λ h. absurd (cc)
    by-tests false false false full not_late = λ h. absurd (cc)
    by-tests false false true false not_late = λ h. absurd (cc)
    by-tests false false true true not_late = λ h. absurd (cc)

-- one of the lanes at a counter
pub lane_at-lanes_after : (lanes depth : ℕ) (judged : List Judged) (counter k : ℕ) → k < lanes → lane_at (lanes_after lanes depth judged counter) k ≡ lane_of counter (accepted_into k judged)
lane_at-lanes_after lanes depth judged counter k lt =
    get_or-map-range (λ j. lane_of counter (accepted_into j judged)) 0 lanes k empty_lane lt ∙ ap (λ (i : ℕ). lane_of counter (accepted_into i judged)) (omega arith)

-- events whose cycles rise, the last of them the greatest
pub record AreInRise (events : List (ℕ × Event)) : Type 0 where
  pub rising : are_rising events ≡ true
  pub up : are_up_to (last_cycle events) events ≡ true

in-rise-push : (events : List (ℕ × Event)) (p : ℕ × Event) → AreInRise events → is_later (last_cycle events) (cycle_of p.1) ≡ true → AreInRise (events ++ p ∷ [])
in-rise-push events p h later = record {
  rising = rising-push (last_cycle events) events p h.rising h.up later;
  up = subst (λ (last : Option ℕ). are_up_to last (events ++ p ∷ []) ≡ true) (sym (last_cycle-push events p)) (up-to-push (last_cycle events) events p h.up later);
}

none-taken : (judged : List Judged) (at k : ℕ) → accepted_into k (judged ++ Cleared at ∷ []) ≡ []
none-taken judged at k = rw (since_clearing-cleared judged at) refl

-- in each lane the cycles of the events accepted since the last clearing rise
pub lanes-rise : (lanes depth : ℕ) (steps : List LaneStep) (k : ℕ) → 1 ≤ lanes → AreInRise (accepted_into k (judged lanes depth steps))
lanes-rise lanes depth steps k some = each-step (λ (s : List LaneStep). AreInRise (accepted_into k (judged lanes depth s))) (record { rising = refl; up = refl }) more steps
  where
    submitted : (old : List Judged) (number at : ℕ) (e : Event) (v : Verdict) → v ≡ verdict (lanes_after lanes depth old at) e at → IsLaneBelow lanes v → AreInRise (accepted_into k old) → AreInRise (accepted_into k (old ++ Submitted number at e v ∷ []))
    submitted old number at e Underflow is below h = subst AreInRise (sym (accepted-unplaced old k number at e Underflow tt)) h
    submitted old number at e Sequence is below h = subst AreInRise (sym (accepted-unplaced old k number at e Sequence tt)) h
    submitted old number at e Undecided is below h = subst AreInRise (sym (accepted-unplaced old k number at e Undecided tt)) h
    submitted old number at e (Lane j) is below h = by-lane (j == k) refl
      where
        by-lane : (b : Bool) → (j == k) ≡ b → AreInRise (accepted_into k (old ++ Submitted number at e (Lane j) ∷ []))
        by-lane true same =
            let same_lane : j ≡ k = eqb-true j k same in
            let taken : accepted_into k (old ++ Submitted number at e (Lane j) ∷ []) ≡ accepted_into k old ++ (number, e) ∷ [] =
            ap (λ (i : ℕ). accepted_into k (old ++ Submitted number at e (Lane i) ∷ [])) same_lane ∙ accepted_into-taken old k number at e in
            let there : k < lanes = subst (λ (i : ℕ). i < lanes) same_lane below in
            let enters : may_enter (lanes_after lanes depth old at) k e ≡ true = subst (λ (i : ℕ). may_enter (lanes_after lanes depth old at) i e ≡ true) same_lane (takes-in-time (lanes_after lanes depth old at) e at j (sym is)).enters in
            let later : is_later (last_cycle (accepted_into k old)) (cycle_of e) ≡ true =
            ap (λ (lane : LaneState). is_later lane.last (cycle_of e)) (sym (lane_at-lanes_after lanes depth old at k there)) ∙ enters in
            subst AreInRise (sym taken) (in-rise-push (accepted_into k old) (number, e) h later)
        by-lane false other =
            let differ : j ≢ k = grind (arith, nat_tests, other) in
            subst AreInRise (sym (accepted_into-other old k j number at e differ)) h

    more : (front : List LaneStep) (step : LaneStep) → AreInRise (accepted_into k (judged lanes depth front)) → AreInRise (accepted_into k (judged lanes depth (front ++ step ∷ [])))
    more front (Submit at e) h =
        subst (λ (j : List Judged). AreInRise (accepted_into k j)) (sym (judged-submit lanes depth front at e))
        (submitted (judged lanes depth front) _ at e _ refl (verdict-among lanes depth (judged lanes depth front) at e (among lanes depth front some)) h)
    more front (Clear at) h =
        subst (λ (j : List Judged). AreInRise (accepted_into k j)) (sym (judged-clear lanes depth front at))
        (subst AreInRise (sym (none-taken (judged lanes depth front) at k)) (record { rising = refl; up = refl }))

few-of-cycle : (cycle : ℕ) (held : List (ℕ × Event)) → are_rising held ≡ true → length (filter (λ p. cycle_of p.1 == cycle) held) ≤ 1
few-of-cycle cycle [] rise = omega arith
few-of-cycle cycle (p ∷ rest) rise = by-first (cycle_of p.1 == cycle) refl (few-of-cycle cycle rest (right-true _ _ rise))
  where
    right-true : (a b : Bool) → (a && b) ≡ true → b ≡ true
    right-true true b h = h
    right-true false b h = absurd (cc)

    by-first : (b : Bool) → (cycle_of p.1 == cycle) ≡ b → length (filter (λ q. cycle_of q.1 == cycle) rest) ≤ 1 → length (filter (λ q. cycle_of q.1 == cycle) (p ∷ rest)) ≤ 1
    by-first true is ih = let one = (first-of-cycle cycle p rest rise (eqb-true (cycle_of p.1) cycle is)).0 in rw one (omega arith)
    by-first false is ih = rw is ih

-- so at most one event of each lane is of a cycle
pub held_at-few : (lanes depth : ℕ) (steps : List LaneStep) (counter cycle : ℕ) → 1 ≤ lanes → length (held_at cycle (lanes_after lanes depth (judged lanes depth steps) counter)) ≤ lanes
held_at-few lanes depth steps counter cycle some =
    let moved : length (held_at cycle (lanes_after lanes depth (judged lanes depth steps) counter)) ≡ length (flat_map (λ (lane : LaneState). filter (λ p. cycle_of p.1 == cycle) lane.held) (lanes_after lanes depth (judged lanes depth steps) counter).lanes) =
    ap (λ (ps : List (ℕ × Event)). length ps) (filter-held (λ p. cycle_of p.1 == cycle) (lanes_after lanes depth (judged lanes depth steps) counter).lanes) in
    let most = each 0 lanes in
    omega (arith, moved, most)
  where
    each : (a n : ℕ) → length (flat_map (λ (lane : LaneState). filter (λ p. cycle_of p.1 == cycle) lane.held) (map (λ k. lane_of counter (accepted_into k (judged lanes depth steps))) (range_with_len a n))) ≤ n
    each a zero = omega arith
    each a (suc n) =
        let ih = each (a + 1) n in
        let one = few-of-cycle cycle (lane_of counter (accepted_into a (judged lanes depth steps))).held (rising-filter (λ p. nat_lt counter (cycle_of p.1)) (accepted_into a (judged lanes depth steps)) (lanes-rise lanes depth steps a some).rising) in
        let parts = length-append (filter (λ p. cycle_of p.1 == cycle) (lane_of counter (accepted_into a (judged lanes depth steps))).held) (flat_map (λ (lane : LaneState). filter (λ p. cycle_of p.1 == cycle) lane.held) (map (λ k. lane_of counter (accepted_into k (judged lanes depth steps))) (range_with_len (a + 1) n))) in
        omega (arith, ih, one, parts)

-- how many events of a lane are of later cycles than a counter
abbrev pub count_after : ℕ → List (ℕ × Event) → ℕ
count_after counter events = length (lane_of counter events).held

-- a later counter leaves no more
pub fewer-later : (from to : ℕ) (events : List (ℕ × Event)) → from ≤ to → count_after to events ≤ count_after from events
fewer-later from to [] le = omega arith
fewer-later from to (p ∷ events) le = let ih = fewer-later from to events le in grind (arith, nat_tests, ih)

count-taken : (lanes depth : ℕ) (old : List Judged) (at k number : ℕ) (e : Event) → k < lanes → verdict (lanes_after lanes depth old at) e at ≡ Lane k → count_after at (accepted_into k (old ++ Submitted number at e (Lane k) ∷ [])) ≤ depth
count-taken lanes depth old at k number e lt is =
    let took = takes-in-time (lanes_after lanes depth old at) e at k is in
    let spare : nat_le depth (count_after at (accepted_into k old)) ≡ false = ap (λ (lane : LaneState). nat_le depth (length lane.held)) (sym (lane_at-lanes_after lanes depth old at k lt)) ∙ took.room in
    let one_more : count_after at (accepted_into k (old ++ Submitted number at e (Lane k) ∷ [])) ≡ count_after at (accepted_into k old) + 1 =
    ap (count_after at) (accepted_into-taken old k number at e) ∙ ap (λ (lane : LaneState). length lane.held) (lane_of-push at (accepted_into k old) (number, e) took.in_time)
    ∙ length-append (lane_of at (accepted_into k old)).held ((number, e) ∷ []) in
    grind (arith, nat_tests, spare, one_more)

-- a lane holds no more events than it may
pub lanes-within : (lanes depth : ℕ) (steps : List LaneStep) (counter k : ℕ) → 1 ≤ lanes → NeverFall 0 steps counter → count_after counter (accepted_into k (judged lanes depth steps)) ≤ depth
lanes-within lanes depth steps counter k some in_time = each-step (λ (s : List LaneStep). NeverFall 0 s counter → Within (judged lanes depth s)) (λ h. omega arith) more steps in_time
  where
    Within : List Judged → Type 0
    Within old = count_after counter (accepted_into k old) ≤ depth

    submitted : (old : List Judged) (number at : ℕ) (e : Event) (v : Verdict) → at ≤ counter → v ≡ verdict (lanes_after lanes depth old at) e at → IsLaneBelow lanes v → Within old → Within (old ++ Submitted number at e v ∷ [])
    submitted old number at e Underflow le is below h = rw (accepted-unplaced old k number at e Underflow tt) h
    submitted old number at e Sequence le is below h = rw (accepted-unplaced old k number at e Sequence tt) h
    submitted old number at e Undecided le is below h = rw (accepted-unplaced old k number at e Undecided tt) h
    submitted old number at e (Lane j) le is below h = by-lane (j == k) refl
      where
        by-lane : (b : Bool) → (j == k) ≡ b → Within (old ++ Submitted number at e (Lane j) ∷ [])
        by-lane true same =
            let same_lane : j ≡ k = eqb-true j k same in
            subst (λ (i : ℕ). count_after counter (accepted_into i (old ++ Submitted number at e (Lane j) ∷ [])) ≤ depth) same_lane
            (let few = count-taken lanes depth old at j number e below (sym is) in
            let fewer = fewer-later at counter (accepted_into j (old ++ Submitted number at e (Lane j) ∷ [])) le in
            omega (arith, few, fewer))
        by-lane false other =
            let differ : j ≢ k = grind (arith, nat_tests, other) in
            rw (accepted_into-other old k j number at e differ) h

    more : (front : List LaneStep) (step : LaneStep) → (NeverFall 0 front counter → Within (judged lanes depth front)) → NeverFall 0 (front ++ step ∷ []) counter → Within (judged lanes depth (front ++ step ∷ []))
    more front (Submit at e) ih h =
        let parts = never-fall-front 0 front (Submit at e) counter h in
        subst Within (sym (judged-submit lanes depth front at e))
        (submitted (judged lanes depth front) _ at e _ parts.1 refl (verdict-among lanes depth (judged lanes depth front) at e (among lanes depth front some)) (ih (never-fall-later 0 front at counter parts.0 parts.1)))
    more front (Clear at) ih h =
        subst Within (sym (judged-clear lanes depth front at))
        (rw (none-taken (judged lanes depth front) at k) (omega arith))

-- nor is a peak greater
pub peaks-within : (lanes depth : ℕ) (steps : List LaneStep) (k : ℕ) → 1 ≤ lanes → peak_from k [] (judged lanes depth steps) ≤ depth
peaks-within lanes depth steps k some = each-step (λ (s : List LaneStep). peak_from k [] (judged lanes depth s) ≤ depth) (omega arith) more steps
  where
    within : (old : List Judged) (j : Judged) → peak_from k [] old ≤ depth → held_after k old j ≤ depth → peak_from k [] (old ++ j ∷ []) ≤ depth
    within old j h few = let grown = peak-push k old j in omega (arith, grown, h, few)

    few-after : (old : List Judged) (number at : ℕ) (e : Event) (v : Verdict) → v ≡ verdict (lanes_after lanes depth old at) e at → IsLaneBelow lanes v → held_after k old (Submitted number at e v) ≤ depth
    few-after old number at e Underflow is below = omega arith
    few-after old number at e Sequence is below = omega arith
    few-after old number at e Undecided is below = omega arith
    few-after old number at e (Lane j) is below = by-lane (j == k) refl
      where
        by-lane : (b : Bool) → (j == k) ≡ b → held_after k old (Submitted number at e (Lane j)) ≤ depth
        by-lane true same =
            let same_lane : j ≡ k = eqb-true j k same in
            rw same (subst (λ (i : ℕ). count_after at (accepted_into i (old ++ Submitted number at e (Lane j) ∷ [])) ≤ depth) same_lane (count-taken lanes depth old at j number e below (sym is)))
        by-lane false other = rw other (omega arith)

    more : (front : List LaneStep) (step : LaneStep) → peak_from k [] (judged lanes depth front) ≤ depth → peak_from k [] (judged lanes depth (front ++ step ∷ [])) ≤ depth
    more front (Submit at e) h =
        subst (λ (j : List Judged). peak_from k [] j ≤ depth) (sym (judged-submit lanes depth front at e))
        (within (judged lanes depth front) _ h (few-after (judged lanes depth front) _ at e _ refl (verdict-among lanes depth (judged lanes depth front) at e (among lanes depth front some))))
    more front (Clear at) h =
        subst (λ (j : List Judged). peak_from k [] j ≤ depth) (sym (judged-clear lanes depth front at))
        (within (judged lanes depth front) (Cleared at) h (omega arith))
