use Rattle.sed_lanes.proofs.Histories.{undecided-earlier}
use Rattle.sed_lanes.proofs.laws.decided_stays_decided.Goals as goal

pub returns : goal.returns
returns c = undecided-earlier
