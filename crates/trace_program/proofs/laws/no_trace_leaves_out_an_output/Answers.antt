use Rattle.trace_program.proofs.Left.{have-places}
use Rattle.trace_program.proofs.laws.no_trace_leaves_out_an_output.Goals as goal

pub returns-clause-lines : goal.returns-clause-lines
returns-clause-lines c = λ options text written status trace.
    c.no_output_is_left_out.ensures trace.core _ (have-places c.sessions_answer.ensures options text written status trace)

pub returns-clause-once : goal.returns-clause-once
returns-clause-once c = λ options text written status trace.
    c.each_output_is_put_out_or_lost_once.ensures trace.core trace.run.reported.lawful.lawful
