use Rattle.std.proofs.Common.{length, vec_len}
use Rattle.lab_crew.proofs.Dealt.{IsDealing}
use Rattle.lab_crew.proofs.dealing.seat_workers.Given as goal

abbrev pub invariant-loop-sched : goal.invariant-loop-sched
invariant-loop-sched l = IsDealing l.desks (length l.initial.scheds.items) l.scheds l.columns l.crew.items

abbrev pub decreases-loop-sched : goal.decreases-loop-sched
decreases-loop-sched l = vec_len l.scheds
