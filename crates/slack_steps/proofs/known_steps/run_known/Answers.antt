use Rattle.std.proofs.Common.{rules, ◌≡◌, sym, subst}
use Rattle.kern_syntax.specs.declared.statement.StmtKind.TheFolds.{the_lemmas}
use Rattle.kern_syntax.specs.Tree.{if_then}
use Rattle.kern_syntax.specs.TreeOf.{block_of, branches_of, expression_of, statement_of}
use Rattle.kern_names.specs.ScopeOf.{scope_of}
use Rattle.slack_meaning.specs.Statements.{statement}
use Rattle.slack_steps.specs.Known.{HasRun}
use Rattle.slack_steps.proofs.known_steps.run_known.Goals as goal

pub returns-in-If : goal.returns-in-If
returns-in-If c callee =
    let tree : statement_of c.args.form.now ≡ if_then (expression_of c.in-If.condition) (block_of c.in-If.body) (branches_of c.deref.result.now c.in-If.last) = search (rules, the_lemmas) in
    subst (λ t. HasRun c.decide_known.result c.args.state.now c.decide_known.new.state (statement (scope_of c.args.scope.now) callee t)) (sym tree) (c.decide_known.ensures callee)
