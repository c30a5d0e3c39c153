use Rattle.std.proofs.Common.{◌≡◌}
use Rattle.desk_kernels.proofs.Turned.{Waited}
use Rattle.desk_kernels.proofs.asking.ask_until_decided.Given as goal

-- holdings in which the chair saw nothing new; the request was handed back
abbrev pub invariant-loop : goal.invariant-loop
invariant-loop g l =
    ((goal.iterator-loop g).can_next l.iterator' × (goal.iterator-loop g).is_finite l.iterator')
    × Waited l.fn.desk l.fn.chair l.chair × (l.asked ≡ l.fn.request)
