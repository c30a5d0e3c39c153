use Rattle.core_session.proofs.Steps.{IsAskedStill, distance}
use Rattle.core_session.proofs.stepping.ask_by_steps.Given as goal

-- the core has only ticked, and no other request waits
abbrev pub invariant-loop-reply : goal.invariant-loop-reply
invariant-loop-reply l = IsAskedStill l.initial.core l.initial.schedule l.fn.request l.core l.schedule l.asked

-- the horizon comes nearer
abbrev pub decreases-loop-reply : goal.decreases-loop-reply
decreases-loop-reply l = distance l.core
