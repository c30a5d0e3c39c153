use Rattle.std.proofs.Common.{ap, subst, ◌∙◌}
use Rattle.code_law.specs.DoesAs.{DoesAs}
use Rattle.kern_syntax.specs.TreeOf.{tree_of}
use Rattle.sim_program.specs.Reports.{finish_of}
use Rattle.sim_program.proofs.Sending.{link-answer}
use Rattle.sim_program.proofs.answer.answer_of_link.Goals as goal

pub returns : goal.returns
returns c = λ text kernel.
    let does = subst (DoesAs (tree_of c.args.compiled.now.0)) c.code-code.ensures.kept c.code-code.ensures.does in
    link-answer c.args.options c.args.word.now text (tree_of c.args.compiled.now.0) c.args.compiled.now.1 c.in_ok-run.run' c.in_ok-bytes.bytes.items c.finish_of.result
    kernel does c.in_ok-run.ensures.run c.in_ok-bytes.ensures (c.finish_of.ensures ∙ ap (finish_of c.in_ok-run.run'.outcome) c.pends.ensures)
