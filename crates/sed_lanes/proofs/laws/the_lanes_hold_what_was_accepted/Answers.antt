use Rattle.sed_lanes.proofs.HeldByNumber.{held-by_number}
use Rattle.sed_lanes.proofs.laws.the_lanes_hold_what_was_accepted.Goals as goal

pub returns : goal.returns
returns c = held-by_number
