-- Events of one channel and cycle: which one is put out, which are overridden, and which collide.
use Rattle.std.specs.Prelude.{ℕ, Bool, true, false, ◌&&◌, ◌||◌, ◌==◌, List, []}
use Rattle.std.specs.Prelude.{◌∷◌, filter, fold, if◌then◌else◌, nat_lt, ℤ, int_lt}
use Rattle.std.specs.Ordering.{int_eq}
use Rattle.rtio_types.specs.declared.event.Event.{Event}
use Rattle.rtio_types.specs.Time.{cycle_of}
use Rattle.rtio_types.specs.Board.{replaces}
use Rattle.sed_lanes.specs.Sorting.{sorted}
use Rattle.output_merge.specs.declared.group.Part.{Part}
use Rattle.output_merge.specs.declared.group.Part.TheVariants.{Keeper, Overridden, Collision}

-- the events of the same channel and cycle, in the order of submission
abbrev pub group_of : Event → List (ℕ × Event) → List (ℕ × Event)
group_of e events = filter (λ p. (p.1.channel == e.channel) && (cycle_of p.1 == cycle_of e)) events

-- the number of the last event with the stamp, the given one if there is none
abbrev pub last_with : ℤ → ℕ → List (ℕ × Event) → ℕ
last_with stamp number events = fold (λ last p. if int_eq p.1.stamp stamp then p.0 else last) number events

-- the part of an event in its group. On a channel that replaces, those with the first one's stamp override one
-- another, and the last of them is kept; on another channel the first is kept. All others are collisions
abbrev pub part_in : List (ℕ × Event) → ℕ × Event → Part
part_in [] p = Keeper
part_in (first ∷ rest) p =
    if replaces p.1.channel
    then (if int_eq p.1.stamp first.1.stamp
    then (if p.0 == last_with first.1.stamp first.0 rest then Keeper else Overridden)
    else Collision)
    else (if p.0 == first.0 then Keeper else Collision)

-- the part of an event among all events
abbrev pub part_of : List (ℕ × Event) → ℕ × Event → Part
part_of events p = part_in (group_of p.1 events) p

abbrev pub is_keeper : Part → Bool
is_keeper Keeper = true
is_keeper part = false

abbrev pub is_collision : Part → Bool
is_collision Collision = true
is_collision part = false

-- the order in which events are put out: by stamp, and then by channel
abbrev pub is_put_out_before : ℕ × Event → ℕ × Event → Bool
is_put_out_before p q = int_lt p.1.stamp q.1.stamp || (int_eq p.1.stamp q.1.stamp && nat_lt p.1.channel q.1.channel)

-- the order in which collisions are logged: by cycle, then by channel, then by number
abbrev pub is_logged_before : ℕ × Event → ℕ × Event → Bool
is_logged_before p q =
    nat_lt (cycle_of p.1) (cycle_of q.1)
    || ((cycle_of p.1 == cycle_of q.1)
    && (nat_lt p.1.channel q.1.channel || ((p.1.channel == q.1.channel) && nat_lt p.0 q.0)))

-- the events that are put out, in that order
abbrev pub keepers : List (ℕ × Event) → List (ℕ × Event)
keepers events = sorted is_put_out_before (filter (λ p. is_keeper (part_of events p)) events)

-- the events that collide, in that order
abbrev pub collisions : List (ℕ × Event) → List (ℕ × Event)
collisions events = sorted is_logged_before (filter (λ p. is_collision (part_of events p)) events)
