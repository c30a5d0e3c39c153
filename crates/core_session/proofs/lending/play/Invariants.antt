use Rattle.core_session.proofs.Lent.{SoFar, requests-left}
use Rattle.core_session.proofs.lending.play.Given as goal

-- what was played so far is a session under way
abbrev pub invariant-loop-outcome : goal.invariant-loop-outcome
invariant-loop-outcome g l =
    SoFar (g.L.Lender.is_open l.fn.lender) (g.L.Lender.entries l.fn.lender) (l.initial.place, l.initial.kept) l.initial.cpu (l.place, l.kept) l.cpu

-- fewer requests are left
abbrev pub decreases-loop-outcome : goal.decreases-loop-outcome
decreases-loop-outcome g l = requests-left (g.L.Lender.entries l.fn.lender) (l.initial.place, l.initial.kept) l.initial.cpu (l.place, l.kept)
