use Rattle.std.proofs.Common.{take}
use Rattle.sed_lanes.specs.Queue.{IsFirst}
use Rattle.sed_lanes.proofs.NextCycles.{least_in}
use Rattle.sed_lanes.proofs.lanes.Lanes.next_cycle.Given as goal

abbrev pub invariant-loop-lane : goal.invariant-loop-lane
invariant-loop-lane l = IsFirst l.least (least_in (take l.lane-index l.lane-items))
