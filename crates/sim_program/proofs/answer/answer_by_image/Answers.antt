use Rattle.std.proofs.Common.{refl, ap, ◌∙◌}
use Rattle.kern_syntax.specs.TreeOf.{tree_of}
use Rattle.core_image.specs.Spelling.{image_of}
use Rattle.sim_program.proofs.Answering.{compiled}
use Rattle.sim_program.proofs.Refused.{refused}
use Rattle.sim_program.proofs.answer.answer_by_image.Goals as goal

pub returns-in_ok-encode-in-Ok : goal.returns-in_ok-encode-in-Ok
returns-in_ok-encode-in-Ok c =
    let all = compiled c.args.text.now c.in_ok-encode-in-Ok.field-0.items (tree_of c.in-Ok.compiled.0) c.code.result.now c.in-Ok.ensures.kernel c.code.ensures.does
    (c.in_ok-encode-in-Ok.ensures ∙ ap image_of c.code-in-Ok.ensures.value) in
    ((all.0, refl), all.1)

pub returns-in_ok-line_of_end-in-Err : goal.returns-in_ok-line_of_end-in-Err
returns-in_ok-line_of_end-in-Err c =
    refused c.args.text.now c.in_ok-line_of_end-in-Err.field-0.items c.in-Err.end c.in-Err.ensures.end c.in_ok-line_of_end-in-Err.ensures
