use Rattle.desk_kernels.proofs.Turned.{Waited}
use Rattle.desk_kernels.proofs.ending.end.Given as goal

-- tries in which the chair saw nothing new
abbrev pub invariant-loop : goal.invariant-loop
invariant-loop g l =
    ((goal.iterator-loop g).can_next l.iterator' × (goal.iterator-loop g).is_finite l.iterator')
    × Waited l.fn.desk l.fn.chair l.chair
