use Rattle.sim_program.proofs.Refused.{refused}
use Rattle.trace_program.proofs.answer.answer_to.Goals as goal

pub answer_of_kernel-requires-clause-kernel : goal.answer_of_kernel-requires-clause-kernel
answer_of_kernel-requires-clause-kernel c = c.in-Ok.ensures.kernel.kernel

pub returns-in-Ok : goal.returns-in-Ok
returns-in-Ok c = c.answer_of_kernel.ensures c.args.text.now c.in-Ok.ensures.kernel.is_text

pub returns-in_ok-line_of_end-in-Err : goal.returns-in_ok-line_of_end-in-Err
returns-in_ok-line_of_end-in-Err c =
    refused c.args.text.now c.in_ok-line_of_end-in-Err.field-0.items c.in-Err.end c.in-Err.ensures.end c.in_ok-line_of_end-in-Err.ensures
