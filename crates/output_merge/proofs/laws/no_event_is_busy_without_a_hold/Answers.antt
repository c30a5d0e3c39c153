use Rattle.output_merge.proofs.Alone.{busy-have-holds}
use Rattle.output_merge.proofs.laws.no_event_is_busy_without_a_hold.Goals as goal

pub returns : goal.returns
returns c = busy-have-holds
