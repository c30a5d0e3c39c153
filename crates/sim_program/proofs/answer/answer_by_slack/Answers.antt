use Rattle.std.proofs.Common.{refl}
use Rattle.kern_syntax.specs.TreeOf.{tree_of}
use Rattle.sim_program.proofs.Answering.{told-verdict}
use Rattle.sim_program.proofs.Refused.{refused}
use Rattle.sim_program.proofs.answer.answer_by_slack.Goals as goal

pub returns-in_ok-slack_line-in-Ok : goal.returns-in_ok-slack_line-in-Ok
returns-in_ok-slack_line-in-Ok c =
    let all = told-verdict c.args.cost c.args.depth c.args.text.now c.in_ok-slack_line-in-Ok.field-0.items (tree_of c.in-Ok.checked) c.in_ok-verdict-in-Ok.verdict
    c.in-Ok.ensures.kernel c.in_ok-verdict-in-Ok.ensures.verdict c.in_ok-verdict-in-Ok.ensures.yes c.in_ok-slack_line-in-Ok.ensures in
    ((all.0, refl), all.1)

pub returns-in_ok-line_of_end-in-Err : goal.returns-in_ok-line_of_end-in-Err
returns-in_ok-line_of_end-in-Err c =
    refused c.args.text.now c.in_ok-line_of_end-in-Err.field-0.items c.in-Err.end c.in-Err.ensures.end c.in_ok-line_of_end-in-Err.ensures
