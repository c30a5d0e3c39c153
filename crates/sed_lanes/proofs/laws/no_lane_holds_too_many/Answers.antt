use Rattle.sed_lanes.proofs.RisingLanes.{lanes-within}
use Rattle.sed_lanes.proofs.laws.no_lane_holds_too_many.Goals as goal

pub returns : goal.returns
returns c = lanes-within
