use Rattle.std.proofs.Common.{rules, ◌≡◌, subst₂, FitsSigned, w64}
use Rattle.std.specs.Prelude.{IfSome}
use Rattle.std.proofs.lemmas.Int.{to_z-of_z}
use Rattle.kern_syntax.specs.Tree.{variable}
use Rattle.kern_syntax.specs.TreeOf.{expression_of}
use Rattle.kern_calls.specs.Types.{type_of}
use Rattle.kern_names.specs.ScopeOf.{scope_of}
use Rattle.slack_meaning.specs.Actions.{State, normal}
use Rattle.slack_meaning.specs.Expressions.{operate}
use Rattle.slack_meaning.specs.Spans.{exactly}
use Rattle.timeline_sem.specs.Statements.{operator_of}
use Rattle.slack_steps.proofs.Parts.{augment_ran}
use Rattle.slack_steps.proofs.known_steps.augment_known.Goals as goal

pub returns-in-Some : goal.returns-in-Some
returns-in-Some c callee =
    let scope = scope_of c.args.scope.now in
    let x = c.args.x.now in
    let op = c.args.operator in
    let added = c.in-Some.added in
    let held = c.span_at-held.result in
    let sum = c.known_sum-sum.result in
    let fits : FitsSigned w64 added = search rules in
    let summed : IfSome sum (λ n. (s : State) → operate (operator_of op) (type_of scope (variable x)) held (exactly added) s ≡ normal (exactly n) s) =
    subst₂ (λ op added. IfSome sum (λ n. (s : State) → operate op (type_of scope (variable x)) held (exactly added) s ≡ normal (exactly n) s)) c.operator_of.ensures (to_z-of_z w64 added fits) c.known_sum-sum.ensures in
    augment_ran scope callee x op (expression_of c.args.e.now) c.args.state.now c.hold_known.new.state added c.place-place.result held sum c.hold_known.result c.in-Some.ensures c.place-place.ensures c.span_at-held.ensures summed c.hold_known.ensures
