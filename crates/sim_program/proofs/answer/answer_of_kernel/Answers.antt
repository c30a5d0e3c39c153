use Rattle.std.proofs.Common.{◌≡◌, ap, subst, ◌∙◌, length, arith}
use Rattle.core_image.specs.Spelling.{image_of}
use Rattle.code_law.specs.DoesAs.{DoesAs}
use Rattle.kern_syntax.specs.TreeOf.{tree_of}
use Rattle.sim_program.proofs.Answering.{run-answers}
use Rattle.sim_program.proofs.answer.answer_of_kernel.Goals as goal

pub returns : goal.returns
returns c = λ text kernel.
    let does = subst (DoesAs (tree_of c.args.compiled.now.0)) c.code.ensures.kept c.code.ensures.does in
    let long : length c.in_ok-encode.field-0.items ≡ length (image_of c.args.compiled.now.1) =
    ap length (c.in_ok-encode.ensures ∙ ap image_of (c.code-2.ensures.value ∙ c.code.ensures.kept)) in
    let told = c.len-size.ensures in
    let held = c.in_ok-encode.field-0.ok.0 in
    let size : c.len-size.result ≡ length (image_of c.args.compiled.now.1) = omega (arith, told, held, long) in
    run-answers c.args.options c.args.form text (tree_of c.args.compiled.now.0) c.args.compiled.now.1 c.in_ok-run.run' c.len-size.result c.answer_of_run.result
    kernel does size c.in_ok-run.ensures.run c.answer_of_run.ensures
