use Rattle.sed_lanes.proofs.Freeing.{waits-until}
use Rattle.sed_lanes.proofs.laws.a_waiting_event_is_decided_in_time.Goals as goal

pub returns : goal.returns
returns c = waits-until
