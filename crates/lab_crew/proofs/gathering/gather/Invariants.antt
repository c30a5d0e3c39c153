use Rattle.std.proofs.Common.{◌≡◌, ◌≤◌, map, vec_capacity}
use Rattle.std.specs.List.{All}
use Rattle.lab_desks.specs.Columns.{items_of}
use Rattle.lab_crew.specs.Crews.{IsFreeWorker}
use Rattle.lab_crew.proofs.gathering.gather.Given as goal

-- the chairs of those so far are gathered, and there is room for the others
abbrev pub invariant-loop-member : goal.invariant-loop-member
invariant-loop-member l =
    (l.scheds.items ≡ map (λ member. member.worker.sched) l.yielded)
    × (map items_of l.rows.items ≡ map (λ member. member.worker.cores) l.yielded)
    × All (λ member. IsFreeWorker member.worker) l.yielded
    × (vec_capacity l.initial.scheds ≤ vec_capacity l.scheds)
    × (vec_capacity l.initial.rows ≤ vec_capacity l.rows)
