use Rattle.std.proofs.Common.{◌≡◌, length, arith, sym, subst}
use Rattle.kern_names.specs.ScopeOf.{scope_of}
use Rattle.meaning_steps.specs.RunnableStatements.{IsRunnableOtherwise}
use Rattle.slack_meaning.specs.Statements.{otherwise}
use Rattle.slack_steps.specs.Known.{HasRun}
use Rattle.slack_steps.proofs.Taken.{no_branches}
use Rattle.slack_steps.proofs.known_steps.run_rest.Goals as goal

pub run_last-requires : goal.run_last-requires
run_last-requires c =
    let none : length c.args.branches.now ≡ 0 = omega (arith, c.in-empty.len_below) in
    subst IsRunnableOtherwise (no_branches c.args.branches.now c.args.last.now none) c.requires

pub returns-in-empty : goal.returns-in-empty
returns-in-empty c callee =
    let none : length c.args.branches.now ≡ 0 = omega (arith, c.in-empty.len_below) in
    subst (λ b. HasRun c.run_last.result c.args.state.now c.run_last.new.state (otherwise (scope_of c.args.scope.now) callee b)) (sym (no_branches c.args.branches.now c.args.last.now none)) (c.run_last.ensures callee)
