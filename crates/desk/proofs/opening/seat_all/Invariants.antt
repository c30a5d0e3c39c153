use Rattle.std.proofs.Common.{◌≡◌, [], ◌-◌, ◌≤◌, vec_capacity}
use Rattle.desk.specs.Seated.{new_chairs}
use Rattle.desk.specs.Counters.{id_of}
use Rattle.desk.proofs.Seating.{first_at}
use Rattle.desk.proofs.opening.seat_all.Given as goal

-- the chairs from 1 on are in the room, and the first one has counted them
abbrev pub invariant-loop-made : goal.invariant-loop-made
invariant-loop-made g l =
    (l.first.me ≡ (first_at l.made (g.T.Booked.fixed l.shared.key.first.value), []))
    × (l.first.table_id ≡ l.shared.table_id)
    × (l.room.items ≡ new_chairs (id_of g.T.Booked.fixed l.shared.table_id l.shared.key) 1 (l.made - 1))
    × (1 ≤ l.made)
    × (l.made ≤ l.chairs)
    × (l.chairs ≤ vec_capacity l.room)

abbrev pub decreases-loop-made : goal.decreases-loop-made
decreases-loop-made g l = l.chairs - l.made
