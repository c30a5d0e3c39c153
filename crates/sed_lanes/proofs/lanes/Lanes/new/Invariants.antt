use Rattle.std.proofs.Common.{◌≡◌, replicate, map, All}
use Rattle.std.specs.Prelude.{vec_len, vec_capacity}
use Rattle.sed_lanes.specs.Lanes.{empty_lane}
use Rattle.sed_lanes.specs.Rows.{IsLane, row_state}
use Rattle.sed_lanes.proofs.lanes.Lanes.new.Given as goal

abbrev pub invariant-loop-lane : goal.invariant-loop-lane
invariant-loop-lane l =
    (map row_state l.all.items ≡ replicate l._lane empty_lane)
    × All (IsLane l.depth) l.all.items
    × (vec_len l.all ≡ l._lane)
    × (vec_capacity l.all ≡ l.lanes)
