use Rattle.lab_kernels.proofs.Deciding.{IsAskedStill, distance}
use Rattle.lab_kernels.proofs.asking.ask_until_decided.Given as goal

-- the core has only ticked, and no other request waits
abbrev pub invariant-loop-reply : goal.invariant-loop-reply
invariant-loop-reply l = IsAskedStill l.fn.core l.fn.request l.core l.asked

abbrev pub decreases-loop-reply : goal.decreases-loop-reply
decreases-loop-reply l = distance l.core
