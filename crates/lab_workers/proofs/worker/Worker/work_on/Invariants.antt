use Rattle.lab_workers.specs.Rounds.{GoesOn, KeepsRest}
use Rattle.lab_workers.proofs.worker.Worker.work_on.Given as goal

-- between two rounds it is the same worker, and is where it was between two jobs
abbrev pub invariant-loop : goal.invariant-loop
invariant-loop g l =
    ((goal.iterator-loop g).can_next l.iterator' × (goal.iterator-loop g).is_finite l.iterator')
    × GoesOn l.fn.desks l.fn.self l.self × KeepsRest l.fn.desks.session l.fn.self l.self
