use Rattle.std.proofs.Common.{◌≡◌, ◌≤◌, ◌*◌, take}
use Rattle.std.specs.Prelude.{sum_by}
use Rattle.sed_lanes.proofs.Counting.{held_in}
use Rattle.sed_lanes.proofs.lanes.Lanes.held.Given as goal

abbrev pub invariant-loop-lane : goal.invariant-loop-lane
invariant-loop-lane l = (l.held ≡ sum_by held_in (take l.lane-index l.lane-items)) × (l.held ≤ 1024 * l.lane-index)
