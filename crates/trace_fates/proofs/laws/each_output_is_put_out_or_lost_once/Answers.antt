use Rattle.trace_fates.proofs.Counting.{told_once}
use Rattle.trace_fates.proofs.laws.each_output_is_put_out_or_lost_once.Goals as goal

pub returns : goal.returns
returns c = told_once
