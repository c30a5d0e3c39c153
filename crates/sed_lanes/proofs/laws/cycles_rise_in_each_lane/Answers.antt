use Rattle.sed_lanes.proofs.RisingLanes.{lanes-rise}
use Rattle.sed_lanes.proofs.laws.cycles_rise_in_each_lane.Goals as goal

pub returns : goal.returns
returns c = λ lanes depth steps lane some. (lanes-rise lanes depth steps lane some).rising
