use Rattle.trace_fates.proofs.Answered.{tells_late}
use Rattle.trace_fates.proofs.laws.late_is_a_slack_below_a_cycle.Goals as goal

pub returns : goal.returns
returns c = tells_late
