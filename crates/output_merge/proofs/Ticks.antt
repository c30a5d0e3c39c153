-- One cycle more: what is put out and what collides in it, by what the lanes held.
use Rattle.std.proofs.Common.{◌≡◌, ◌<◌, ◌≤◌, ◌+◌, ℕ, suc, Bool, true, false, List, [], ◌∷◌, ◌++◌, map, length, refl, ap, ◌∙◌, sym, cond, arith}
use Rattle.std.specs.Prelude.{filter, nat_le, nat_lt, not, ◌==◌, ◌||◌}
use Rattle.std.specs.List.{list_all}
use Rattle.std.proofs.lemmas.Bool.{and_parts}
use Rattle.std.proofs.lemmas.Bool.Decides.{nat_tests}
use Rattle.std.proofs.lemmas.List.{map-append}
use Rattle.rtio_types.specs.declared.event.Event.{Event}
use Rattle.rtio_types.specs.Time.{cycle_of}
use Rattle.sed_lanes.specs.Calls.{held_at}
use Rattle.sed_lanes.specs.Counters.{NeverFall}
use Rattle.sed_lanes.specs.Heads.{by_number, is_earlier}
use Rattle.sed_lanes.specs.Judged.{Judged, LaneStep, judged, lanes_after}
use Rattle.sed_lanes.specs.Lanes.{LanesState, held_events}
use Rattle.sed_lanes.specs.Sorting.{inserted, sorted}
use Rattle.sed_lanes.proofs.Orders.{IsInOrder, filter-sorted, NoneBefore, sorted-in_order}
use Rattle.output_merge.specs.Busy.{busy, busy_behind, is_busy, put_out}
use Rattle.output_merge.specs.Groups.{collisions, is_collision, is_keeper, is_logged_before, is_put_out_before, keepers, part_of}
use Rattle.output_merge.specs.Live.{live}
use Rattle.output_merge.specs.Merge.{are_of_cycle}
use Rattle.output_merge.specs.Outputs.{outputs, put_out_by, up_to}
use Rattle.output_merge.specs.Sieve.{are_before}
use Rattle.output_merge.specs.declared.group.Part.{Part}
use Rattle.output_merge.specs.declared.group.Part.TheVariants.{Collision, Keeper, Overridden}
use Rattle.output_merge.proofs.Busies.{busy-of_next, put_out-of_next}
use Rattle.output_merge.proofs.Cycles.{keepers-by-cycle, put_out-next}
use Rattle.output_merge.proofs.Histories.{AreByCycle, AreFrom, of_cycle, up_to-next}
use Rattle.output_merge.proofs.LiveHeld.{held_at-live}
use Rattle.output_merge.proofs.OneCycle.{keepers-of_cycle}
use Rattle.output_merge.proofs.Parts.{collisions-of_cycle, logged_order}
use Rattle.output_merge.proofs.Summing.{all-sorted}

-- the keepers of the next cycle are those of the events that the lanes held of it
next-keepers : (lanes depth : ℕ) (steps : List LaneStep) (counter : ℕ) → 1 ≤ lanes → NeverFall 0 steps counter → of_cycle (counter + 1) (keepers (live (judged lanes depth steps))) ≡ keepers (by_number (held_at (counter + 1) (lanes_after lanes depth (judged lanes depth steps) counter)))
next-keepers lanes depth steps counter some in_time =
    let next : counter < counter + 1 = omega arith in
    keepers-of_cycle (counter + 1) (live (judged lanes depth steps)) ∙ ap keepers (sym (held_at-live lanes depth steps counter (counter + 1) some in_time next))

-- what is put out up to the next cycle is what was up to the counter, and behind it what the merge keeps of the events that the lanes held of that cycle, less the busy ones
pub put_out-tick : (holds : List ℕ) (lanes depth : ℕ) (steps : List LaneStep) (counter : ℕ) → 1 ≤ lanes → NeverFall 0 steps counter → put_out_by holds (judged lanes depth steps) (counter + 1) ≡ put_out_by holds (judged lanes depth steps) counter ++ filter (λ p. not (is_busy holds (put_out_by holds (judged lanes depth steps) counter) p)) (keepers (by_number (held_at (counter + 1) (lanes_after lanes depth (judged lanes depth steps) counter))))
put_out-tick holds lanes depth steps counter some in_time =
    let old : List (ℕ × Event) = live (judged lanes depth steps) in
    put_out-next holds (judged lanes depth steps) counter
    ∙ ap (λ (ps : List (ℕ × Event)). put_out_by holds (judged lanes depth steps) counter ++ ps)
    (put_out-of_next holds counter (keepers old) (keepers-by-cycle old)
    ∙ ap (filter (λ p. not (is_busy holds (put_out_by holds (judged lanes depth steps) counter) p))) (next-keepers lanes depth steps counter some in_time))

pub outputs-tick : (holds : List ℕ) (lanes depth : ℕ) (steps : List LaneStep) (counter : ℕ) → 1 ≤ lanes → NeverFall 0 steps counter → outputs holds (judged lanes depth steps) (counter + 1) ≡ outputs holds (judged lanes depth steps) counter ++ map (λ p. p.1) (filter (λ p. not (is_busy holds (put_out_by holds (judged lanes depth steps) counter) p)) (keepers (by_number (held_at (counter + 1) (lanes_after lanes depth (judged lanes depth steps) counter)))))
outputs-tick holds lanes depth steps counter some in_time =
    ap (map (λ p. p.1)) (put_out-tick holds lanes depth steps counter some in_time)
    ∙ map-append (λ p. p.1) (put_out_by holds (judged lanes depth steps) counter) _

left-false : (a b : Bool) → (a || b) ≡ false → a ≡ false
left-false false b h = refl
left-false true b h = absurd (cc)

none-from : (p : ℕ × Event) (events : List (ℕ × Event)) → NoneBefore is_logged_before p events → AreFrom (cycle_of p.1) events
none-from p [] none = tt
none-from p (q ∷ events) none =
    let not_less : nat_lt (cycle_of q.1) (cycle_of p.1) ≡ false = left-false _ _ none.0 in
    (grind (arith, nat_tests, not_less), none-from p events none.1)

in-order-by-cycle : (events : List (ℕ × Event)) → IsInOrder is_logged_before events → AreByCycle events
in-order-by-cycle [] order = tt
in-order-by-cycle (p ∷ events) order = (none-from p events order.0, in-order-by-cycle events order.1)

-- one cycle more adds the collisions of that cycle, behind all others
pub collided-next : (events : List (ℕ × Event)) (cycle : ℕ) → up_to (cycle + 1) (collisions events) ≡ up_to cycle (collisions events) ++ collisions (of_cycle (cycle + 1) events)
collided-next events cycle =
    up_to-next cycle (collisions events) (in-order-by-cycle (collisions events) (sorted-in_order is_logged_before logged_order (filter (λ p. is_collision (part_of events p)) events)))
    ∙ ap (λ (ps : List (ℕ × Event)). up_to cycle (collisions events) ++ ps) (collisions-of_cycle (cycle + 1) events)

-- one cycle more adds the busy keepers of that cycle, behind all others
busy-next : (holds : List ℕ) (events : List (ℕ × Event)) (cycle : ℕ) → up_to (cycle + 1) (busy holds (keepers events)) ≡ up_to cycle (busy holds (keepers events)) ++ sorted is_logged_before (of_cycle (cycle + 1) (busy_behind holds [] (keepers events)))
busy-next holds events cycle =
    up_to-next cycle (busy holds (keepers events)) (in-order-by-cycle (busy holds (keepers events)) (sorted-in_order is_logged_before logged_order (busy_behind holds [] (keepers events))))
    ∙ ap (λ (ps : List (ℕ × Event)). up_to cycle (busy holds (keepers events)) ++ ps)
    (filter-sorted is_logged_before logged_order (λ p. cycle_of p.1 == cycle + 1) (busy_behind holds [] (keepers events)))

-- they are those among what the merge keeps of the events that the lanes held of it
pub busy-of_tick : (holds : List ℕ) (lanes depth : ℕ) (steps : List LaneStep) (counter : ℕ) → 1 ≤ lanes → NeverFall 0 steps counter → of_cycle (counter + 1) (busy_behind holds [] (keepers (live (judged lanes depth steps)))) ≡ filter (λ p. is_busy holds (put_out_by holds (judged lanes depth steps) counter) p) (keepers (by_number (held_at (counter + 1) (lanes_after lanes depth (judged lanes depth steps) counter))))
busy-of_tick holds lanes depth steps counter some in_time =
    let old : List (ℕ × Event) = live (judged lanes depth steps) in
    busy-of_next holds counter (keepers old) (keepers-by-cycle old)
    ∙ ap (filter (λ p. is_busy holds (put_out_by holds (judged lanes depth steps) counter) p)) (next-keepers lanes depth steps counter some in_time)

pub busy-tick : (holds : List ℕ) (lanes depth : ℕ) (steps : List LaneStep) (counter : ℕ) → 1 ≤ lanes → NeverFall 0 steps counter → up_to (counter + 1) (busy holds (keepers (live (judged lanes depth steps)))) ≡ up_to counter (busy holds (keepers (live (judged lanes depth steps)))) ++ sorted is_logged_before (filter (λ p. is_busy holds (put_out_by holds (judged lanes depth steps) counter) p) (keepers (by_number (held_at (counter + 1) (lanes_after lanes depth (judged lanes depth steps) counter)))))
busy-tick holds lanes depth steps counter some in_time =
    busy-next holds (live (judged lanes depth steps)) counter
    ∙ ap (λ (ps : List (ℕ × Event)). up_to counter (busy holds (keepers (live (judged lanes depth steps)))) ++ sorted is_logged_before ps)
    (busy-of_tick holds lanes depth steps counter some in_time)

-- the lines of a cycle's busy keepers stand by channel and number
pub busy-of_cycle : (holds : List ℕ) (events : List (ℕ × Event)) (cycle : ℕ) → of_cycle cycle (busy holds (keepers events)) ≡ sorted is_logged_before (of_cycle cycle (busy_behind holds [] (keepers events)))
busy-of_cycle holds events cycle = filter-sorted is_logged_before logged_order (λ p. cycle_of p.1 == cycle) (busy_behind holds [] (keepers events))

-- what was put out up to a counter was before the next cycle
pub put_out-before : (holds : List ℕ) (old : List Judged) (counter : ℕ) → are_before (counter + 1) (put_out_by holds old counter) ≡ true
put_out-before holds old counter = each (put_out holds (keepers (live old)))
  where
    each : (events : List (ℕ × Event)) → are_before (counter + 1) (up_to counter events) ≡ true
    each [] = refl
    each (p ∷ rest) = at (nat_le (cycle_of p.1) counter) refl (each rest)
      where
        at : (b : Bool) → nat_le (cycle_of p.1) counter ≡ b → are_before (counter + 1) (up_to counter rest) ≡ true → are_before (counter + 1) (up_to counter (p ∷ rest)) ≡ true
        at true is ih = let lt : nat_lt (cycle_of p.1) (counter + 1) ≡ true = grind (arith, nat_tests, is) in rw (is, lt) ih
        at false is ih = rw is ih

all-filter : {X : Type 0} (test inner : X → Bool) (xs : List X) → list_all test xs ≡ true → list_all test (filter inner xs) ≡ true
all-filter test inner [] all = refl
all-filter test inner (x ∷ xs) all = at (inner x) (and_parts (test x) (list_all test xs) all).0 (all-filter test inner xs (and_parts (test x) (list_all test xs) all).1)
  where
    at : (i : Bool) → test x ≡ true → list_all test (filter inner xs) ≡ true → list_all test (cond i (x ∷ filter inner xs) (filter inner xs)) ≡ true
    at true here ih = rw here ih
    at false here ih = ih

-- the keepers of events of one cycle are of that cycle
pub keepers-of_one : (cycle : ℕ) (pairs : List (ℕ × Event)) → are_of_cycle cycle pairs ≡ true → are_of_cycle cycle (keepers (by_number pairs)) ≡ true
keepers-of_one cycle pairs all =
    all-sorted is_put_out_before (λ p. cycle_of p.1 == cycle) (filter (λ p. is_keeper (part_of (by_number pairs) p)) (by_number pairs))
    (all-filter (λ p. cycle_of p.1 == cycle) (λ p. is_keeper (part_of (by_number pairs) p)) (by_number pairs)
    (all-sorted is_earlier (λ p. cycle_of p.1 == cycle) pairs all))

-- they are the collisions of the events that the lanes held of it
pub collided-tick : (lanes depth : ℕ) (steps : List LaneStep) (counter : ℕ) → 1 ≤ lanes → NeverFall 0 steps counter → up_to (counter + 1) (collisions (live (judged lanes depth steps))) ≡ up_to counter (collisions (live (judged lanes depth steps))) ++ collisions (by_number (held_at (counter + 1) (lanes_after lanes depth (judged lanes depth steps) counter)))
collided-tick lanes depth steps counter some in_time =
    let next : counter < counter + 1 = omega arith in
    let held : by_number (held_at (counter + 1) (lanes_after lanes depth (judged lanes depth steps) counter)) ≡ of_cycle (counter + 1) (live (judged lanes depth steps)) = held_at-live lanes depth steps counter (counter + 1) some in_time next in
    collided-next (live (judged lanes depth steps)) counter
    ∙ ap (λ (ps : List (ℕ × Event)). up_to counter (collisions (live (judged lanes depth steps))) ++ collisions ps) (sym held)

-- the held events of a cycle are of that cycle
pub held_at-of_cycle : (cycle : ℕ) (s : LanesState) → are_of_cycle cycle (held_at cycle s) ≡ true
held_at-of_cycle cycle s = each (held_events s)
  where
    each : (events : List (ℕ × Event)) → are_of_cycle cycle (filter (λ p. cycle_of p.1 == cycle) events) ≡ true
    each [] = refl
    each (p ∷ rest) = part (cycle_of p.1 == cycle) refl (each rest)
      where
        part : (b : Bool) → (cycle_of p.1 == cycle) ≡ b → are_of_cycle cycle (filter (λ q. cycle_of q.1 == cycle) rest) ≡ true → are_of_cycle cycle (filter (λ q. cycle_of q.1 == cycle) (p ∷ rest)) ≡ true
        part true is ih = rw (is, is) ih
        part false is ih = rw is ih

length-inserted : {X : Type 0} (before : X → X → Bool) (x : X) (xs : List X) → length (inserted before x xs) ≡ length xs + 1
length-inserted before x [] = refl
length-inserted before x (y ∷ ys) = put (before y x) (length-inserted before x ys)
  where
    put : (b : Bool) → length (inserted before x ys) ≡ length ys + 1 → length (cond b (y ∷ inserted before x ys) (x ∷ y ∷ ys)) ≡ length (y ∷ ys) + 1
    put true ih = omega (arith, ih)
    put false ih = omega arith

-- sorting keeps the length
pub length-sorted : {X : Type 0} (before : X → X → Bool) (xs : List X) → length (sorted before xs) ≡ length xs
length-sorted before [] = refl
length-sorted before (x ∷ xs) =
    let ih : length (sorted before xs) ≡ length xs = length-sorted before xs in
    let put : length (inserted before x (sorted before xs)) ≡ length (sorted before xs) + 1 = length-inserted before x (sorted before xs) in
    omega (arith, ih, put)

-- an event isn't both put out and told of
pub length-kept : (events : List (ℕ × Event)) → length (keepers events) + length (collisions events) ≤ length events
length-kept events =
    let kept : length (keepers events) ≡ length (filter (λ p. is_keeper (part_of events p)) events) = length-sorted _ (filter (λ p. is_keeper (part_of events p)) events) in
    let collided : length (collisions events) ≡ length (filter (λ p. is_collision (part_of events p)) events) = length-sorted _ (filter (λ p. is_collision (part_of events p)) events) in
    let few = apart events in
    omega (arith, kept, collided, few)
  where
    apart : (some : List (ℕ × Event)) → length (filter (λ p. is_keeper (part_of events p)) some) + length (filter (λ p. is_collision (part_of events p)) some) ≤ length some
    apart [] = omega arith
    apart (p ∷ rest) = by-part (part_of events p) (apart rest)
      where
        by-part : (part : Part) → length (filter (λ q. is_keeper (part_of events q)) rest) + length (filter (λ q. is_collision (part_of events q)) rest) ≤ length rest → length (cond (is_keeper part) (p ∷ filter (λ q. is_keeper (part_of events q)) rest) (filter (λ q. is_keeper (part_of events q)) rest)) + length (cond (is_collision part) (p ∷ filter (λ q. is_collision (part_of events q)) rest) (filter (λ q. is_collision (part_of events q)) rest)) ≤ suc (length rest)
        by-part Keeper ih = omega (arith, ih)
        by-part Overridden ih = omega (arith, ih)
        by-part Collision ih = omega (arith, ih)

-- a sieve keeps or takes out each
pub length-sieved : (test : ℕ × Event → Bool) (events : List (ℕ × Event)) → length (filter (λ p. not (test p)) events) + length (sorted is_logged_before (filter test events)) ≡ length events
length-sieved test events = let same : length (sorted is_logged_before (filter test events)) ≡ length (filter test events) = length-sorted is_logged_before (filter test events) in let both = each events in omega (arith, same, both)
  where
    each : (some : List (ℕ × Event)) → length (filter (λ p. not (test p)) some) + length (filter test some) ≡ length some
    each [] = refl
    each (p ∷ rest) = at (test p) (each rest)
      where
        at : (b : Bool) → length (filter (λ q. not (test q)) rest) + length (filter test rest) ≡ length rest → length (cond (not b) (p ∷ filter (λ q. not (test q)) rest) (filter (λ q. not (test q)) rest)) + length (cond b (p ∷ filter test rest) (filter test rest)) ≡ suc (length rest)
        at true ih = omega (arith, ih)
        at false ih = omega (arith, ih)
