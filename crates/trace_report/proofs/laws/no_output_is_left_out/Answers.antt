use Rattle.trace_report.proofs.Left.{none-left-out}
use Rattle.trace_report.proofs.laws.no_output_is_left_out.Goals as goal

pub returns : goal.returns
returns c = none-left-out
