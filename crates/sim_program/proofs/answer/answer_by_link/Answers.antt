use Rattle.sim_program.proofs.Refused.{refused}
use Rattle.sim_program.proofs.answer.answer_by_link.Goals as goal

pub returns-in-Ok : goal.returns-in-Ok
returns-in-Ok c = c.answer_of_link.ensures c.args.text.now c.in-Ok.ensures.kernel

pub returns-in_ok-line_of_end-in-Err : goal.returns-in_ok-line_of_end-in-Err
returns-in_ok-line_of_end-in-Err c =
    refused c.args.text.now c.in_ok-line_of_end-in-Err.field-0.items c.in-Err.end c.in-Err.ensures.end c.in_ok-line_of_end-in-Err.ensures
