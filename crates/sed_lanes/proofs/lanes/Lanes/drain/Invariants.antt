use Rattle.std.specs.Prelude.{map}
use Rattle.sed_lanes.specs.Rows.{row_state}
use Rattle.sed_lanes.proofs.Emptying.{IsDrained}
use Rattle.sed_lanes.proofs.lanes.Lanes.drain.Given as goal

abbrev pub invariant-loop-lane : goal.invariant-loop-lane
invariant-loop-lane l =
    IsDrained l.fn.self.depth l.cycle (map row_state l.initial.lane-items) l.lane-index l.lane-items l.into.items l.into.room l.initial.into.room
