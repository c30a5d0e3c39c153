use Rattle.core_cpu.specs.Nearness.{nearness}
use Rattle.kernel_places.proofs.Going.{Going}
use Rattle.kernel_places.proofs.ends.place_of_end.Given as goal

-- the last place with a line up to there is found
abbrev pub invariant-loop-alloc : goal.invariant-loop-alloc
invariant-loop-alloc l = Going l.fn.cpu l.cpu l.lines l.fn.asked l.end

abbrev pub decreases-loop-alloc : goal.decreases-loop-alloc
decreases-loop-alloc l = nearness l.cpu
