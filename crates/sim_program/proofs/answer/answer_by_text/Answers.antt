use Rattle.std.proofs.Common.{refl, ap, ◌∙◌}
use Rattle.kern_syntax.specs.Print.{program_text}
use Rattle.kern_syntax.specs.Tree.{ProgramTree}
use Rattle.kern_syntax.specs.TreeOf.{tree_of}
use Rattle.sim_program.proofs.Answering.{printed}
use Rattle.sim_program.proofs.Refused.{refused}
use Rattle.sim_program.proofs.answer.answer_by_text.Goals as goal

pub returns-in_ok-print-in-Ok : goal.returns-in_ok-print-in-Ok
returns-in_ok-print-in-Ok c =
    let text = c.in_ok-print-in-Ok.ensures ∙ ap (λ (p : ProgramTree). program_text p) (ap tree_of c.program.ensures.kept) in
    let all = printed c.args.text.now c.in_ok-print-in-Ok.field-0.items (tree_of c.in-Ok.checked) c.in-Ok.ensures.kernel text in
    ((all.0, refl), all.1)

pub returns-in_ok-line_of_end-in-Err : goal.returns-in_ok-line_of_end-in-Err
returns-in_ok-line_of_end-in-Err c =
    refused c.args.text.now c.in_ok-line_of_end-in-Err.field-0.items c.in-Err.end c.in-Err.ensures.end c.in_ok-line_of_end-in-Err.ensures
