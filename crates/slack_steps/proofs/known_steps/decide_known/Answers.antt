use Rattle.std.proofs.Common.{rules, ◌≡◌, ap, ◌∙◌, FitsSigned, w64}
use Rattle.std.proofs.lemmas.Int.{to_z-of_z}
use Rattle.rtio_types.specs.Integers.{is_true}
use Rattle.kern_syntax.specs.TreeOf.{block_of, branches_of, expression_of}
use Rattle.kern_names.specs.ScopeOf.{scope_of}
use Rattle.slack_steps.proofs.Taken.{if_ran}
use Rattle.slack_steps.proofs.known_steps.decide_known.Goals as goal

pub returns-in-Some : goal.returns-in-Some
returns-in-Some c callee =
    let number = c.in-Some.number in
    let fits : FitsSigned w64 number = search rules in
    let is : c.is_true.result ≡ is_true number = c.is_true.ensures ∙ ap is_true (to_z-of_z w64 number fits) in
    if_ran (scope_of c.args.scope.now) callee (expression_of c.args.condition.now) (block_of c.args.body.now) (branches_of c.args.branches.now c.args.last.now) c.args.state.now c.run_taken.new.state number c.is_true.result c.run_taken.result c.in-Some.ensures is (c.run_taken.ensures callee)
