use Rattle.trace_program.proofs.Whole.{misses-none}
use Rattle.trace_program.proofs.laws.a_whole_trace_misses_no_output.Goals as goal

pub returns : goal.returns
returns c = misses-none c.each_fate_is_the_first_reason_that_holds.ensures
