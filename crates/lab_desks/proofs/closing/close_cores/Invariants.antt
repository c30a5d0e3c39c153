use Rattle.std.proofs.Common.{map, vec_len, vec_capacity}
use Rattle.lab_desks.specs.Columns.{items_of}
use Rattle.lab_desks.proofs.Behind.{IsClosing}
use Rattle.lab_desks.proofs.closing.close_cores.Given as goal

abbrev pub invariant-loop-desk : goal.invariant-loop-desk
invariant-loop-desk l =
    IsClosing (map items_of l.initial.rows) l.initial.desks.items l.desks.items l.rows l.rooms.items l.cores.items (vec_capacity l.cores)

abbrev pub decreases-loop-desk : goal.decreases-loop-desk
decreases-loop-desk l = vec_len l.desks
