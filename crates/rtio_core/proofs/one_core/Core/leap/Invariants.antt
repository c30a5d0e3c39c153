use Rattle.rtio_core.proofs.Leaping.{IsLeaping}
use Rattle.rtio_core.proofs.one_core.Core.leap.Given as goal

abbrev pub invariant-loop-left : goal.invariant-loop-left
invariant-loop-left l = IsLeaping l.initial.self l.self l.max l.left

abbrev pub decreases-loop-left : goal.decreases-loop-left
decreases-loop-left l = l.left
