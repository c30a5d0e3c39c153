use Rattle.std.proofs.Common.{◌≡◌}
use Rattle.desk.specs.Seated.{losing, LosesMore}
use Rattle.desk.proofs.counter.Desk.take.Given as goal

-- tries that were lost have changed the chair's list of them alone
abbrev pub invariant-loop : goal.invariant-loop
invariant-loop g l =
    ((goal.iterator-loop g).can_next l.iterator' × (goal.iterator-loop g).is_finite l.iterator')
    × (l.chair ≡ losing l.fn.chair l.chair.lost) × LosesMore l.fn.chair.number l.fn.chair.lost l.chair.lost
