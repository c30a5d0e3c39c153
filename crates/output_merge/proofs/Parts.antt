-- What is put out and what collides up to a cycle is settled by the live events up to it.
use Rattle.std.proofs.Common.{◌≡◌, ◌<◌, ◌≤◌, ℕ, Bool, true, false, List, [], ◌∷◌, ◌++◌, map, ap, ◌∙◌, sym, arith, append-nil}
use Rattle.std.specs.Prelude.{filter, nat_le, nat_lt, ◌==◌, ◌&&◌, ◌||◌}
use Rattle.std.proofs.lemmas.Bool.{eqb-true}
use Rattle.std.proofs.lemmas.Bool.Decides.{nat_tests}
use Rattle.std.proofs.lemmas.List.Elements.{filter-append}
use Rattle.rtio_types.specs.declared.event.Event.{Event}
use Rattle.rtio_types.specs.Time.{cycle_of}
use Rattle.sed_lanes.specs.Sorting.{sorted}
use Rattle.sed_lanes.specs.Judged.{Judged, Submitted, Cleared}
use Rattle.sed_lanes.specs.Verdict.{Verdict, Lane}
use Rattle.sed_lanes.proofs.Orders.{IsChain, filter-sorted}
use Rattle.sed_lanes.proofs.Unplaced.{IsUnplaced}
use Rattle.output_merge.specs.Groups.{collisions, group_of, is_collision, is_keeper, is_logged_before, is_put_out_before, keepers, part_in, part_of}
use Rattle.output_merge.specs.Busy.{busy, busy_behind, put_out}
use Rattle.output_merge.specs.Live.{live}
use Rattle.output_merge.specs.Outputs.{outputs, put_out_by, up_to}
use Rattle.output_merge.proofs.Cycles.{keepers-by-cycle, put_out_order}
use Rattle.output_merge.proofs.Busies.{up_to-busy, up_to-put_out}
use Rattle.output_merge.proofs.Histories.{filter-within, live-accepted, live-cleared, of_cycle}
use Rattle.output_merge.proofs.OneCycle.{filter-swap}
use Rattle.output_merge.proofs.Steps.{live-unplaced}

-- by three numbers, the first of them that differ
abbrev triple : ℕ → ℕ → ℕ → ℕ → ℕ → ℕ → Bool
triple a b c x y z = nat_lt a x || ((a == x) && (nat_lt b y || ((b == y) && nat_lt c z)))

triple-chain : (a b c x y z k l m : ℕ) → triple x y z a b c ≡ false → triple k l m x y z ≡ false → triple k l m a b c ≡ false
triple-chain a b c x y z k l m one two = grind (arith, nat_tests, one, two)

triple-one_way : (a b c x y z : ℕ) → triple a b c x y z ≡ true → triple x y z a b c ≡ false
triple-one_way a b c x y z h = grind (arith, nat_tests, h)

-- by cycle, channel and number is an order
pub logged_order : IsChain is_logged_before
logged_order = record {
  chain = λ p q r one two. triple-chain (cycle_of p.1) p.1.channel p.0 (cycle_of q.1) q.1.channel q.0 (cycle_of r.1) r.1.channel r.0 one two;
  one_way = λ p q h. triple-one_way (cycle_of p.1) p.1.channel p.0 (cycle_of q.1) q.1.channel q.0 h;
}

right-true : (a b : Bool) → (a && b) ≡ true → b ≡ true
right-true true b h = h
right-true false b h = absurd (cc)

-- the events whose cycles pass a test
abbrev pub in_cycles : (ℕ → Bool) → List (ℕ × Event) → List (ℕ × Event)
in_cycles test events = filter (λ p. test (cycle_of p.1)) events

-- a group lies within its cycle
group-part : (test : ℕ → Bool) (e : Event) (events : List (ℕ × Event)) → test (cycle_of e) ≡ true → group_of e (in_cycles test events) ≡ group_of e events
group-part test e events is =
    filter-within (λ p. (p.1.channel == e.channel) && (cycle_of p.1 == cycle_of e)) (λ p. test (cycle_of p.1)) events
    (λ p in_group. ap test (eqb-true (cycle_of p.1) (cycle_of e) (right-true (p.1.channel == e.channel) (cycle_of p.1 == cycle_of e) in_group)) ∙ is)

-- what is put out in some cycles depends on the events of those cycles alone
pub keepers-part : (test : ℕ → Bool) (events : List (ℕ × Event)) → in_cycles test (keepers events) ≡ keepers (in_cycles test events)
keepers-part test events =
    filter-sorted is_put_out_before put_out_order (λ p. test (cycle_of p.1)) (filter (λ p. is_keeper (part_of events p)) events)
    ∙ ap (sorted is_put_out_before)
    (filter-swap (λ p. test (cycle_of p.1)) (λ p. is_keeper (part_of events p)) (λ p. is_keeper (part_of (in_cycles test events) p)) events
    (λ p is. ap (λ group. is_keeper (part_in group p)) (group-part test p.1 events is)))

-- and so does what collides in them
pub collisions-part : (test : ℕ → Bool) (events : List (ℕ × Event)) → in_cycles test (collisions events) ≡ collisions (in_cycles test events)
collisions-part test events =
    filter-sorted is_logged_before logged_order (λ p. test (cycle_of p.1)) (filter (λ p. is_collision (part_of events p)) events)
    ∙ ap (sorted is_logged_before)
    (filter-swap (λ p. test (cycle_of p.1)) (λ p. is_collision (part_of events p)) (λ p. is_collision (part_of (in_cycles test events) p)) events
    (λ p is. ap (λ group. is_collision (part_in group p)) (group-part test p.1 events is)))

pub collisions-of_cycle : (cycle : ℕ) (events : List (ℕ × Event)) → of_cycle cycle (collisions events) ≡ collisions (of_cycle cycle events)
collisions-of_cycle cycle events = collisions-part (λ n. n == cycle) events

pub up_to-keepers : (cycle : ℕ) (events : List (ℕ × Event)) → up_to cycle (keepers events) ≡ keepers (up_to cycle events)
up_to-keepers cycle events = keepers-part (λ n. nat_le n cycle) events

pub up_to-collisions : (cycle : ℕ) (events : List (ℕ × Event)) → up_to cycle (collisions events) ≡ collisions (up_to cycle events)
up_to-collisions cycle events = collisions-part (λ n. nat_le n cycle) events

-- what is put out up to a cycle is put out of the keepers up to it
put_out-settled : (holds : List ℕ) (judged : List Judged) (cycle : ℕ) → put_out_by holds judged cycle ≡ put_out holds (keepers (up_to cycle (live judged)))
put_out-settled holds judged cycle =
    up_to-put_out holds cycle [] (keepers (live judged)) (keepers-by-cycle (live judged)) ∙ ap (put_out holds) (up_to-keepers cycle (live judged))

busy-settled : (holds : List ℕ) (judged : List Judged) (cycle : ℕ) → up_to cycle (busy holds (keepers (live judged))) ≡ busy holds (keepers (up_to cycle (live judged)))
busy-settled holds judged cycle =
    filter-sorted is_logged_before logged_order (λ p. nat_le (cycle_of p.1) cycle) (busy_behind holds [] (keepers (live judged)))
    ∙ ap (sorted is_logged_before)
    (up_to-busy holds cycle [] (keepers (live judged)) (keepers-by-cycle (live judged)) ∙ ap (busy_behind holds []) (up_to-keepers cycle (live judged)))

-- histories with the same live events up to a cycle put out the same up to it
pub put_out-same : (holds : List ℕ) (judged other : List Judged) (cycle : ℕ) → up_to cycle (live judged) ≡ up_to cycle (live other) → put_out_by holds judged cycle ≡ put_out_by holds other cycle
put_out-same holds judged other cycle same =
    put_out-settled holds judged cycle ∙ ap (λ (events : List (ℕ × Event)). put_out holds (keepers events)) same ∙ sym (put_out-settled holds other cycle)

pub outputs-same : (holds : List ℕ) (judged other : List Judged) (cycle : ℕ) → up_to cycle (live judged) ≡ up_to cycle (live other) → outputs holds judged cycle ≡ outputs holds other cycle
outputs-same holds judged other cycle same = ap (map (λ (p : ℕ × Event). p.1)) (put_out-same holds judged other cycle same)

-- and have the same busy ones up to it
pub busy-same : (holds : List ℕ) (judged other : List Judged) (cycle : ℕ) → up_to cycle (live judged) ≡ up_to cycle (live other) → up_to cycle (busy holds (keepers (live judged))) ≡ up_to cycle (busy holds (keepers (live other)))
busy-same holds judged other cycle same =
    busy-settled holds judged cycle ∙ ap (λ (events : List (ℕ × Event)). busy holds (keepers events)) same ∙ sym (busy-settled holds other cycle)

-- and have the same collisions up to it
pub collided-same : (judged other : List Judged) (cycle : ℕ) → up_to cycle (live judged) ≡ up_to cycle (live other) → up_to cycle (collisions (live judged)) ≡ up_to cycle (collisions (live other))
collided-same judged other cycle same = up_to-collisions cycle (live judged) ∙ ap collisions same ∙ sym (up_to-collisions cycle (live other))

up_to-push : (cycle : ℕ) (events : List (ℕ × Event)) (p : ℕ × Event) → cycle < cycle_of p.1 → up_to cycle (events ++ p ∷ []) ≡ up_to cycle events
up_to-push cycle events p later =
    let no : nat_le (cycle_of p.1) cycle ≡ false = grind (arith, nat_tests, later) in
    filter-append (λ q. nat_le (cycle_of q.1) cycle) events (p ∷ []) ∙ rw no (append-nil _)

-- those up to a cycle, of those up to a later one
pub up_to-up_to : (cycle later : ℕ) (events : List (ℕ × Event)) → cycle ≤ later → up_to cycle (up_to later events) ≡ up_to cycle events
up_to-up_to cycle later events le =
    filter-within (λ p. nat_le (cycle_of p.1) cycle) (λ p. nat_le (cycle_of p.1) later) events (λ p is. grind (arith, nat_tests, is, le))

-- an event that is accepted for a later cycle changes nothing up to the counter
pub live-up_to-accepted : (judged : List Judged) (number at : ℕ) (e : Event) (k cycle : ℕ) → cycle < cycle_of e → up_to cycle (live (judged ++ Submitted number at e (Lane k) ∷ [])) ≡ up_to cycle (live judged)
live-up_to-accepted judged number at e k cycle later = ap (up_to cycle) (live-accepted judged number at e k) ∙ up_to-push cycle (live judged) (number, e) later

-- nor does an event that no lane takes
pub live-up_to-unplaced : (judged : List Judged) (number at : ℕ) (e : Event) (v : Verdict) (cycle : ℕ) → IsUnplaced v → up_to cycle (live (judged ++ Submitted number at e v ∷ [])) ≡ up_to cycle (live judged)
live-up_to-unplaced judged number at e v cycle un = ap (up_to cycle) (live-unplaced judged number at e v un)

-- nor does a clearing at this counter or a later one
pub live-up_to-cleared : (judged : List Judged) (at cycle : ℕ) → cycle ≤ at → up_to cycle (live (judged ++ Cleared at ∷ [])) ≡ up_to cycle (live judged)
live-up_to-cleared judged at cycle le = ap (up_to cycle) (live-cleared judged at) ∙ up_to-up_to cycle at (live judged) le
