use Rattle.core_session.proofs.Steps.{IsTickedOn, nearness}
use Rattle.core_session.proofs.stepping.tick_on.Given as goal

-- the core has only ticked
abbrev pub invariant-loop-core : goal.invariant-loop-core
invariant-loop-core l = IsTickedOn l.initial.core l.initial.schedule l.core l.schedule

-- a step of the processor comes nearer
abbrev pub decreases-loop-core : goal.decreases-loop-core
decreases-loop-core l = nearness l.initial.schedule l.core l.schedule
