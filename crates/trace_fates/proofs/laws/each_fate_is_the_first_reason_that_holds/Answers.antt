use Rattle.trace_fates.proofs.Reasons.{tells_why}
use Rattle.trace_fates.proofs.laws.each_fate_is_the_first_reason_that_holds.Goals as goal

pub returns : goal.returns
returns c = tells_why
