use Rattle.std.proofs.Common.{sym, subst, ◌∙◌}
use Rattle.kern_syntax.specs.TreeOf.{statement_of}
use Rattle.kern_names.specs.ScopeOf.{scope_of}
use Rattle.meaning_steps.specs.RunnableStatements.{IsRunnableBlock}
use Rattle.slack_meaning.specs.Statements.{block}
use Rattle.slack_steps.specs.Known.{HasRun}
use Rattle.slack_steps.proofs.Taken.{only_ran}
use Rattle.slack_steps.proofs.known_steps.run_only.Goals as goal

pub set_known-requires : goal.set_known-requires
set_known-requires c = (subst IsRunnableBlock (sym c.lines.ensures ∙ c.in-Some.ensures) c.requires).0

pub returns-in-Some : goal.returns-in-Some
returns-in-Some c callee =
    let only = c.in-Some.only.now in
    let s = c.args.state.now in
    let new = c.set_known.new.state in
    let ran = c.set_known.result in
    let scope = scope_of c.args.scope.now in
    subst (λ b. HasRun ran s new (block scope callee b)) (sym (sym c.lines.ensures ∙ c.in-Some.ensures))
    (only_ran scope callee only.line (statement_of only.kind) s new ran (c.set_known.ensures callee))
