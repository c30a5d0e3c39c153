use Rattle.std.proofs.Common.{rules, sym, subst, ◌∙◌, FitsSigned, to_z, of_z, w64}
use Rattle.std.proofs.lemmas.Int.{to_z-of_z}
use Rattle.slack_meaning.specs.Expressions.{operate_numbers}
use Rattle.slack_meaning.specs.Actions as A
use Rattle.slack_meaning.specs.declared.span.Span.{Span}
use Rattle.slack_state.specs.Does.{DoesAlways}
use Rattle.slack_steps.proofs.Results.{both_numbers}
use Rattle.slack_steps.proofs.operating.operate.Goals as goal

pub returns-then-are_both_numbers : goal.returns-then-are_both_numbers
returns-then-are_both_numbers c =
    let both = sym c.are_both_numbers.ensures ∙ c.if-are_both_numbers.true in
    let f : FitsSigned w64 c.args.a.least = search rules in
    let g : FitsSigned w64 c.args.b.least = search rules in
    let told = subst (λ m. DoesAlways c.operate_numbers.result c.args.state.now (operate_numbers c.args.operator c.args.kind m (to_z w64 (of_z w64 c.args.b.least)) c.args.state.now)) (to_z-of_z w64 c.args.a.least f) (c.operate_numbers.ensures c.args.state.now) in
    let here = subst (λ n. DoesAlways c.operate_numbers.result c.args.state.now (operate_numbers c.args.operator c.args.kind c.args.a.least n c.args.state.now)) (to_z-of_z w64 c.args.b.least g) told in
    subst (λ (d : A.Completion Span). DoesAlways c.operate_numbers.result c.args.state.now d) (sym (both_numbers c.args.operator c.args.kind c.args.a c.args.b c.args.state.now both)) here
