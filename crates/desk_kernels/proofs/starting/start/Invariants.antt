use Rattle.std.proofs.Common.{◌≡◌}
use Rattle.desk_kernels.proofs.Held.{Tried}
use Rattle.desk_kernels.proofs.starting.start.Given as goal

-- tries that added nothing, of the same chair; what the session is for was handed back
abbrev pub invariant-loop : goal.invariant-loop
invariant-loop g l =
    ((goal.iterator-loop g).can_next l.iterator' × (goal.iterator-loop g).is_finite l.iterator')
    × Tried l.fn.desk l.fn.chair l.chair × (l.for_step ≡ l.fn.of)
