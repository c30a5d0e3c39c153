-- An undecided event waits until a lane frees a place, which is before its own cycle.
use Rattle.std.proofs.Common.{inl, inr, ◌≡◌, ◌≢◌, ◌<◌, ◌≤◌, ◌+◌, ◌%◌, ℕ, Bool, true, false, List, [], ◌∷◌, length, refl, ap, ◌∙◌, sym, subst, arith}
use Rattle.std.specs.Prelude.{◌⊎◌, Option, min, filter, nat_lt, nat_le, not, ◌&&◌}
use Rattle.std.specs.List.{list_all}
use Rattle.std.proofs.lemmas.Bool.Decides.{nat_tests}
use Rattle.rtio_types.specs.declared.event.Event.{Event}
use Rattle.rtio_types.specs.Time.{cycle_of}
use Rattle.sed_lanes.specs.Counters.{NeverFall}
use Rattle.sed_lanes.specs.Judged.{LaneStep, accepted_into, current_lane, judged, lane_of, lanes_after, last_cycle}
use Rattle.sed_lanes.specs.Lanes.{LaneState, LanesState, is_full_lane, is_later, lane_at, may_enter, next_lane}
use Rattle.sed_lanes.specs.Rows.{are_rising}
use Rattle.sed_lanes.specs.Verdict.{Verdict, Underflow, Lane, Sequence, Undecided, current_takes, frees_at, until, verdict}
use Rattle.sed_lanes.specs.Waits.{WaitsUntil}
use Rattle.sed_lanes.proofs.Accepting.{next-seen}
use Rattle.sed_lanes.proofs.Emptying.{filter-short}
use Rattle.sed_lanes.proofs.HeldByNumber.{held-later}
use Rattle.sed_lanes.proofs.Histories.{enters-same, tests-undecided, undecided-earlier}
use Rattle.sed_lanes.proofs.RisingLanes.{lane_at-lanes_after, lanes-rise, lanes-within}
use Rattle.sed_lanes.proofs.Risings.{all-filter, below-later, later-than, rising-filter}
use Rattle.sed_lanes.proofs.Since.{among, length-lanes_after}
use Rattle.sed_lanes.proofs.Waiting.{current-full, tests-of, until-cases, until-later}

and-true : (a b : Bool) → (a && b) ≡ true → (a ≡ true) × (b ≡ true)
and-true true b h = (refl, h)
and-true false b h = absurd (cc)

-- a full lane whose events are before a cycle frees a place before it
first-before : (depth cycle : ℕ) (held : List (ℕ × Event)) (last : Option ℕ) → 1 ≤ depth → nat_le depth (length held) ≡ true → list_all (λ p. nat_lt (cycle_of p.1) cycle) held ≡ true → frees_at (record { held = held; last = last }) < cycle
first-before depth cycle [] last some full all = let no : depth ≤ 0 = grind (arith, nat_tests, full) in absurd (omega (arith, some, no))
first-before depth cycle (p ∷ rest) last some full all =
    let first = (and-true (nat_lt (cycle_of p.1) cycle) _ all).0 in
    grind (arith, nat_tests, first)

-- where a lane frees its first place later than a counter, all its events are later
all-later : (counter : ℕ) (held : List (ℕ × Event)) (last : Option ℕ) → are_rising held ≡ true → counter < frees_at (record { held = held; last = last }) → list_all (λ p. nat_lt counter (cycle_of p.1)) held ≡ true
all-later counter [] last rise later = refl
all-later counter (p ∷ rest) last rise later =
    let parts = and-true (list_all (λ q. nat_lt (cycle_of p.1) (cycle_of q.1)) rest) (are_rising rest) rise in
    let first : nat_lt counter (cycle_of p.1) ≡ true = grind (arith, nat_tests, later) in
    let le : counter ≤ cycle_of p.1 = omega (arith, later) in
    rw first (later-than counter p rest le parts.0)

-- so it holds the same at that counter
same-part : (from to : ℕ) (events : List (ℕ × Event)) → from ≤ to → list_all (λ p. nat_lt to (cycle_of p.1)) (filter (λ p. nat_lt from (cycle_of p.1)) events) ≡ true → filter (λ p. nat_lt to (cycle_of p.1)) events ≡ filter (λ p. nat_lt from (cycle_of p.1)) events
same-part from to [] le all = refl
same-part from to (p ∷ events) le all = by-first (nat_lt from (cycle_of p.1)) refl (same-part from to events le) all
  where
    by-first : (b : Bool) → nat_lt from (cycle_of p.1) ≡ b → (list_all (λ q. nat_lt to (cycle_of q.1)) (filter (λ q. nat_lt from (cycle_of q.1)) events) ≡ true → filter (λ q. nat_lt to (cycle_of q.1)) events ≡ filter (λ q. nat_lt from (cycle_of q.1)) events) → list_all (λ q. nat_lt to (cycle_of q.1)) (filter (λ q. nat_lt from (cycle_of q.1)) (p ∷ events)) ≡ true → filter (λ q. nat_lt to (cycle_of q.1)) (p ∷ events) ≡ filter (λ q. nat_lt from (cycle_of q.1)) (p ∷ events)
    by-first true is ih all_of =
        let there : (nat_lt to (cycle_of p.1) && list_all (λ q. nat_lt to (cycle_of q.1)) (filter (λ q. nat_lt from (cycle_of q.1)) events)) ≡ true = rw is at all_of in
        let parts = and-true (nat_lt to (cycle_of p.1)) _ there in
        rw (is, parts.0) (ap (λ (ps : List (ℕ × Event)). p ∷ ps) (ih parts.1))
    by-first false is ih all_of =
        let there : list_all (λ q. nat_lt to (cycle_of q.1)) (filter (λ q. nat_lt from (cycle_of q.1)) events) ≡ true = rw is at all_of in
        let no : nat_lt to (cycle_of p.1) ≡ false = grind (arith, nat_tests, is, le) in
        rw (is, no) (ih there)

-- those later than a later counter, of those later than one
part-of-part : (from to : ℕ) (events : List (ℕ × Event)) → from ≤ to → filter (λ p. nat_lt to (cycle_of p.1)) (filter (λ p. nat_lt from (cycle_of p.1)) events) ≡ filter (λ p. nat_lt to (cycle_of p.1)) events
part-of-part from to [] le = refl
part-of-part from to (p ∷ events) le = let ih = part-of-part from to events le in grind (arith, nat_tests, ih)

-- at the cycle of its first event a lane holds fewer
fewer : (cycle : ℕ) (held : List (ℕ × Event)) (last : Option ℕ) → 0 < cycle → cycle ≡ frees_at (record { held = held; last = last }) → length (filter (λ p. nat_lt cycle (cycle_of p.1)) held) < length held
fewer cycle [] last some is = absurd (omega (arith, some, is))
fewer cycle (p ∷ rest) last some is =
    let no : nat_lt cycle (cycle_of p.1) ≡ false = grind (arith, nat_tests, is) in
    let short = filter-short (λ q. nat_lt cycle (cycle_of q.1)) rest in
    rw no (omega (arith, short))

-- the lanes at a counter
abbrev lanes_then : (lanes depth : ℕ) → List LaneStep → ℕ → LanesState
lanes_then lanes depth steps counter = lanes_after lanes depth (judged lanes depth steps) counter

frees-before : (lanes depth : ℕ) (steps : List LaneStep) (counter k : ℕ) (e : Event) → 1 ≤ lanes → 1 ≤ depth → k < lanes → is_full_lane (lanes_then lanes depth steps counter) k ≡ true → may_enter (lanes_then lanes depth steps counter) k e ≡ true → frees_at (lane_at (lanes_then lanes depth steps counter) k) < cycle_of e
frees-before lanes depth steps counter k e some deep lt full enters =
    let events : List (ℕ × Event) = accepted_into k (judged lanes depth steps) in
    let lane : lane_at (lanes_then lanes depth steps counter) k ≡ lane_of counter events = lane_at-lanes_after lanes depth (judged lanes depth steps) counter k lt in
    let filled : nat_le depth (length (lane_of counter events).held) ≡ true = ap (λ (l : LaneState). nat_le depth (length l.held)) (sym lane) ∙ full in
    let later : is_later (last_cycle events) (cycle_of e) ≡ true = ap (λ (l : LaneState). is_later l.last (cycle_of e)) (sym lane) ∙ enters in
    let before : list_all (λ p. nat_lt (cycle_of p.1) (cycle_of e)) (lane_of counter events).held ≡ true =
    all-filter (λ p. nat_lt counter (cycle_of p.1)) (λ p. nat_lt (cycle_of p.1) (cycle_of e)) events (below-later (last_cycle events) events (0, e) (lanes-rise lanes depth steps k some).up later) in
    subst (λ (l : LaneState). frees_at l < cycle_of e) (sym lane) (first-before depth (cycle_of e) (lane_of counter events).held (last_cycle events) deep filled before)

still-full : (lanes depth : ℕ) (steps : List LaneStep) (from to k : ℕ) → 1 ≤ lanes → k < lanes → from ≤ to → to < frees_at (lane_at (lanes_then lanes depth steps from) k) → is_full_lane (lanes_then lanes depth steps from) k ≡ true → is_full_lane (lanes_then lanes depth steps to) k ≡ true
still-full lanes depth steps from to k some lt le later full =
    let events : List (ℕ × Event) = accepted_into k (judged lanes depth steps) in
    let old : lane_at (lanes_then lanes depth steps from) k ≡ lane_of from events = lane_at-lanes_after lanes depth (judged lanes depth steps) from k lt in
    let new : lane_at (lanes_then lanes depth steps to) k ≡ lane_of to events = lane_at-lanes_after lanes depth (judged lanes depth steps) to k lt in
    let frees : to < frees_at (lane_of from events) = subst (λ (l : LaneState). to < frees_at l) old later in
    let rise : are_rising (lane_of from events).held ≡ true = rising-filter (λ p. nat_lt from (cycle_of p.1)) events (lanes-rise lanes depth steps k some).rising in
    let same : (lane_of to events).held ≡ (lane_of from events).held = same-part from to events le (all-later to (lane_of from events).held (last_cycle events) rise frees) in
    ap (λ (l : LaneState). nat_le depth (length l.held)) new ∙ ap (λ (ps : List (ℕ × Event)). nat_le depth (length ps)) same
    ∙ ap (λ (l : LaneState). nat_le depth (length l.held)) (sym old) ∙ full

has-room : (lanes depth : ℕ) (steps : List LaneStep) (from to k : ℕ) → 1 ≤ lanes → NeverFall 0 steps from → k < lanes → from < to → to ≡ frees_at (lane_at (lanes_then lanes depth steps from) k) → is_full_lane (lanes_then lanes depth steps to) k ≡ false
has-room lanes depth steps from to k some in_time lt later is =
    let events : List (ℕ × Event) = accepted_into k (judged lanes depth steps) in
    let old : lane_at (lanes_then lanes depth steps from) k ≡ lane_of from events = lane_at-lanes_after lanes depth (judged lanes depth steps) from k lt in
    let new : lane_at (lanes_then lanes depth steps to) k ≡ lane_of to events = lane_at-lanes_after lanes depth (judged lanes depth steps) to k lt in
    let frees : to ≡ frees_at (lane_of from events) = is ∙ ap frees_at old in
    let positive : 0 < to = omega (arith, later) in
    let le : from ≤ to = omega (arith, later) in
    let less = fewer to (lane_of from events).held (last_cycle events) positive frees in
    let same : length (filter (λ p. nat_lt to (cycle_of p.1)) (lane_of from events).held) ≡ length (lane_of to events).held = ap (λ (ps : List (ℕ × Event)). length ps) (part-of-part from to events le) in
    let most = lanes-within lanes depth steps from k some in_time in
    let spare : nat_le depth (length (lane_of to events).held) ≡ false = grind (arith, nat_tests, less, same, most) in
    ap (λ (l : LaneState). nat_le depth (length l.held)) new ∙ spare

-- the lanes of a waiting event: the next one, and the current one if the event may enter it, are full
record AreFull (s : LanesState) (e : Event) : Type 0 where
  enters : may_enter s (next_lane s) e ≡ true
  next : is_full_lane s (next_lane s) ≡ true
  current : may_enter s s.current e ≡ true → is_full_lane s s.current ≡ true

are-full : (s : LanesState) (e : Event) (counter : ℕ) → verdict s e counter ≡ Undecided → AreFull s e
are-full s e counter undecided =
    let t = tests-of s e counter undecided in
    record { enters = t.entered; next = t.filled; current = λ enters. current-full (is_full_lane s s.current) (may_enter s s.current e) t.refused enters }

next-then : (lanes depth : ℕ) (steps : List LaneStep) (from to : ℕ) → next_lane (lanes_then lanes depth steps to) ≡ next_lane (lanes_then lanes depth steps from)
next-then lanes depth steps from to =
    ap (λ (n : ℕ). ((lanes_then lanes depth steps from).current + 1) % n)
    (length-lanes_after lanes depth (judged lanes depth steps) to ∙ sym (length-lanes_after lanes depth (judged lanes depth steps) from))

-- an event whose lanes are full is undecided before its cycle
full-undecided : (s : LanesState) (e : Event) (counter : ℕ) → counter < cycle_of e → AreFull s e → verdict s e counter ≡ Undecided
full-undecided s e counter later full =
    let in_time : nat_le (cycle_of e) counter ≡ false = grind (arith, nat_tests, later) in
    tests-undecided (nat_le (cycle_of e) counter) (current_takes s e) (may_enter s (next_lane s) e) (is_full_lane s (next_lane s)) s.current (next_lane s)
    (record { in_time = in_time; refused = refuses (may_enter s s.current e) refl; entered = full.enters; filled = full.next })
  where
    refuses : (b : Bool) → may_enter s s.current e ≡ b → (not (is_full_lane s s.current) && may_enter s s.current e) ≡ false
    refuses true is = let filled = full.current is in rw filled refl
    refuses false is = rw is (and-false (not (is_full_lane s s.current)))
      where
        and-false : (b : Bool) → (b && false) ≡ false
        and-false true = refl
        and-false false = refl

abbrev Cases : LanesState → Event → Type 0
Cases s e = ((may_enter s s.current e ≡ true) × (until s e ≡ min (frees_at (lane_at s s.current)) (frees_at (lane_at s (next_lane s))))) ⊎ ((may_enter s s.current e ≡ false) × (until s e ≡ frees_at (lane_at s (next_lane s))))

-- the lanes of a waiting event are there
record AreThere (lanes depth : ℕ) (steps : List LaneStep) (counter : ℕ) : Type 0 where
  current : current_lane (judged lanes depth steps) < lanes
  next : next_lane (lanes_then lanes depth steps counter) < lanes
  long : length (lanes_then lanes depth steps counter).lanes ≡ lanes

are-there : (lanes depth : ℕ) (steps : List LaneStep) (counter : ℕ) → 1 ≤ lanes → AreThere lanes depth steps counter
are-there lanes depth steps counter some =
    let s : LanesState = lanes_then lanes depth steps counter in
    let long : length s.lanes ≡ lanes = length-lanes_after lanes depth (judged lanes depth steps) counter in
    let current : s.current < lanes = (among lanes depth steps some).current in
    record {
      current = current;
      next = subst (λ (n : ℕ). next_lane s < n) long (next-seen s (subst (λ (n : ℕ). s.current < n) (sym long) current));
      long = long;
    }

-- a waiting event waits until a counter before its own cycle
pub until-before : (lanes depth : ℕ) (steps : List LaneStep) (counter : ℕ) (e : Event) → 1 ≤ lanes → 1 ≤ depth → verdict (lanes_after lanes depth (judged lanes depth steps) counter) e counter ≡ Undecided → until (lanes_after lanes depth (judged lanes depth steps) counter) e < cycle_of e
until-before lanes depth steps counter e some deep undecided = by-cases (until-cases s e full.enters)
  where
    s : LanesState
    s = lanes_then lanes depth steps counter

    full : AreFull s e
    full = are-full s e counter undecided

    next : frees_at (lane_at s (next_lane s)) < cycle_of e
    next = frees-before lanes depth steps counter (next_lane s) e some deep (are-there lanes depth steps counter some).next full.next full.enters

    by-cases : Cases s e → until s e < cycle_of e
    by-cases (inl (enters, is)) = let first = next in omega (arith, is, first)
    by-cases (inr (other, is)) = let first = next in omega (arith, is, first)

-- so its cycle isn't the next one either
pub undecided-before : (lanes depth : ℕ) (steps : List LaneStep) (counter : ℕ) (e : Event) → 1 ≤ lanes → 1 ≤ depth → verdict (lanes_after lanes depth (judged lanes depth steps) counter) e counter ≡ Undecided → counter + 1 < cycle_of e
undecided-before lanes depth steps counter e some deep undecided =
    let there = are-there lanes depth steps counter some in
    let s : LanesState = lanes_then lanes depth steps counter in
    let later : counter < until s e = until-later s e counter (held-later lanes depth (judged lanes depth steps) counter) deep (subst (λ (n : ℕ). s.current < n) (sym there.long) there.current) undecided in
    let before : until s e < cycle_of e = until-before lanes depth steps counter e some deep undecided in
    omega (arith, later, before)

-- an event that waits at a counter waits until a lane that it may enter frees a place, and no longer
pub waits-until : (lanes depth : ℕ) (steps : List LaneStep) (counter : ℕ) (e : Event) → 1 ≤ lanes → 1 ≤ depth → NeverFall 0 steps counter → verdict (lanes_after lanes depth (judged lanes depth steps) counter) e counter ≡ Undecided → WaitsUntil (lanes_after lanes depth (judged lanes depth steps)) e counter (until (lanes_after lanes depth (judged lanes depth steps) counter) e)
waits-until lanes depth steps counter e some deep in_time undecided = record {
  later = later;
  in_time = before;
  waits = λ to le lt. full-undecided (lanes_then lanes depth steps to) e to (omega (arith, lt, before)) (full-then to le lt);
  decided = λ to le again. freed (undecided-earlier lanes depth (judged lanes depth steps) e (until s e) to le again);
}
  where
    s : LanesState
    s = lanes_then lanes depth steps counter

    full : AreFull s e
    full = are-full s e counter undecided

    there : AreThere lanes depth steps counter
    there = are-there lanes depth steps counter some

    current_there : s.current < lanes
    current_there = there.current

    next_there : next_lane s < lanes
    next_there = there.next

    later : counter < until s e
    later = until-later s e counter (held-later lanes depth (judged lanes depth steps) counter) deep (subst (λ (n : ℕ). s.current < n) (sym there.long) current_there) undecided

    cases : Cases s e
    cases = until-cases s e full.enters

    before : until s e < cycle_of e
    before = until-before lanes depth steps counter e some deep undecided

    full-then : (to : ℕ) → counter ≤ to → to < until s e → AreFull (lanes_then lanes depth steps to) e
    full-then to le lt = by-cases cases
      where
        by-cases : Cases s e → AreFull (lanes_then lanes depth steps to) e
        by-cases (inl (enters, is)) = record {
          enters = ap (λ (k : ℕ). may_enter (lanes_then lanes depth steps to) k e) (next-then lanes depth steps counter to) ∙ enters-same lanes depth (judged lanes depth steps) counter to (next_lane s) e ∙ full.enters;
          next = ap (is_full_lane (lanes_then lanes depth steps to)) (next-then lanes depth steps counter to) ∙ still-full lanes depth steps counter to (next_lane s) some next_there le (omega (arith, lt, is)) full.next;
          current = λ again. still-full lanes depth steps counter to s.current some current_there le (omega (arith, lt, is)) (full.current enters);
        }
        by-cases (inr (other, is)) = record {
          enters = ap (λ (k : ℕ). may_enter (lanes_then lanes depth steps to) k e) (next-then lanes depth steps counter to) ∙ enters-same lanes depth (judged lanes depth steps) counter to (next_lane s) e ∙ full.enters;
          next = ap (is_full_lane (lanes_then lanes depth steps to)) (next-then lanes depth steps counter to) ∙ still-full lanes depth steps counter to (next_lane s) some next_there le (omega (arith, lt, is)) full.next;
          current = λ again. let no : true ≡ false = sym again ∙ enters-same lanes depth (judged lanes depth steps) counter to s.current e ∙ other in absurd (cc);
        }

    freed : verdict (lanes_then lanes depth steps (until s e)) e (until s e) ≡ Undecided → ⊥
    freed again = by-cases cases
      where
        then_full : AreFull (lanes_then lanes depth steps (until s e)) e
        then_full = are-full (lanes_then lanes depth steps (until s e)) e (until s e) again

        next-frees : until s e ≡ frees_at (lane_at s (next_lane s)) → ⊥
        next-frees is =
            let room : is_full_lane (lanes_then lanes depth steps (until s e)) (next_lane s) ≡ false = has-room lanes depth steps counter (until s e) (next_lane s) some in_time next_there later is in
            let no : true ≡ false = sym then_full.next ∙ ap (is_full_lane (lanes_then lanes depth steps (until s e))) (next-then lanes depth steps counter (until s e)) ∙ room in
            absurd (cc)

        current-frees : may_enter s s.current e ≡ true → until s e ≡ frees_at (lane_at s s.current) → ⊥
        current-frees enters is =
            let room : is_full_lane (lanes_then lanes depth steps (until s e)) s.current ≡ false = has-room lanes depth steps counter (until s e) s.current some in_time current_there later is in
            let entered : may_enter (lanes_then lanes depth steps (until s e)) s.current e ≡ true = enters-same lanes depth (judged lanes depth steps) counter (until s e) s.current e ∙ enters in
            let no : true ≡ false = sym (then_full.current entered) ∙ room in
            absurd (cc)

        by-least : may_enter s s.current e ≡ true → until s e ≡ min (frees_at (lane_at s s.current)) (frees_at (lane_at s (next_lane s))) → (b : Bool) → nat_le (frees_at (lane_at s s.current)) (frees_at (lane_at s (next_lane s))) ≡ b → ⊥
        by-least enters is true le = let first : frees_at (lane_at s s.current) ≤ frees_at (lane_at s (next_lane s)) = grind (arith, nat_tests, le) in current-frees enters (omega (arith, is, first))
        by-least enters is false le = let first : frees_at (lane_at s (next_lane s)) < frees_at (lane_at s s.current) = grind (arith, nat_tests, le) in next-frees (omega (arith, is, first))

        by-cases : Cases s e → ⊥
        by-cases (inl (enters, is)) = by-least enters is (nat_le (frees_at (lane_at s s.current)) (frees_at (lane_at s (next_lane s)))) refl
        by-cases (inr (other, is)) = next-frees is

-- so from each counter before its own cycle on an event is decided at one before that cycle
pub decided-in-time : (lanes depth : ℕ) (steps : List LaneStep) (from : ℕ) (e : Event) → 1 ≤ lanes → 1 ≤ depth → NeverFall 0 steps from → from < cycle_of e → (counter : ℕ) × (from ≤ counter) × (counter < cycle_of e) × (verdict (lanes_after lanes depth (judged lanes depth steps) counter) e counter ≢ Undecided)
decided-in-time lanes depth steps from e some deep in_time early = by-verdict (verdict (lanes_then lanes depth steps from) e from) refl
  where
    InTime : Type 0
    InTime = (counter : ℕ) × (from ≤ counter) × (counter < cycle_of e) × (verdict (lanes_after lanes depth (judged lanes depth steps) counter) e counter ≢ Undecided)

    at-once : verdict (lanes_then lanes depth steps from) e from ≢ Undecided → InTime
    at-once decided = (from, omega arith, early, decided)

    by-verdict : (v : Verdict) → verdict (lanes_then lanes depth steps from) e from ≡ v → InTime
    by-verdict Underflow is = at-once (λ again. let no : Underflow ≡ Undecided = sym is ∙ again in absurd (cc))
    by-verdict (Lane k) is = at-once (λ again. let no : Lane k ≡ Undecided = sym is ∙ again in absurd (cc))
    by-verdict Sequence is = at-once (λ again. let no : Sequence ≡ Undecided = sym is ∙ again in absurd (cc))
    by-verdict Undecided is =
        let waits = waits-until lanes depth steps from e some deep in_time is in
        let u : ℕ = until (lanes_then lanes depth steps from) e in
        let later = waits.later in
        (u, omega (arith, later), waits.in_time, waits.decided u (omega arith))
