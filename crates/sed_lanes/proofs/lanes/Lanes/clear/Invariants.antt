use Rattle.std.specs.Prelude.{map}
use Rattle.sed_lanes.specs.Rows.{row_state}
use Rattle.sed_lanes.proofs.Clearing.{IsCleared}
use Rattle.sed_lanes.proofs.lanes.Lanes.clear.Given as goal

abbrev pub invariant-loop-lane : goal.invariant-loop-lane
invariant-loop-lane l =
    IsCleared l.fn.self.depth (map row_state l.initial.lane-items) l.lane-index l.lane-items l.into.items l.into.room l.initial.into.room
