use Rattle.sed_lanes.proofs.Reasons.{sequence-has-reason}
use Rattle.sed_lanes.proofs.laws.a_later_event_is_in_sequence.Goals as goal

pub returns : goal.returns
returns c = sequence-has-reason
