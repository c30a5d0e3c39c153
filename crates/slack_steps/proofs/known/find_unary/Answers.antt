use Rattle.std.proofs.Common.{rules, ◌≡◌, true, ◌∙◌, FitsSigned, w64}
use Rattle.std.specs.Int.{int_wrap}
use Rattle.std.proofs.lemmas.Int.{to_z-of_z}
use Rattle.kern_syntax.specs.Tree.{unary}
use Rattle.kern_syntax.specs.TreeOf.{expression_of}
use Rattle.kern_calls.specs.Types.{type_of, width_of}
use Rattle.kern_names.specs.ScopeOf.{scope_of}
use Rattle.timeline_sem.specs.Numbers.{unary_result}
use Rattle.slack_steps.specs.Known.{IsKnownAs}
use Rattle.slack_steps.proofs.Parts.{as_word, unary_known}
use Rattle.slack_steps.proofs.known.find_unary.Goals as goal

pub returns : goal.returns
returns c s told =
    let scope = scope_of c.args.scope.now in
    let op = c.args.operator in
    let e = expression_of c.args.operand.now in
    let number = c.args.a in
    let result = c.changed.result in
    let fits : FitsSigned w64 result = search rules in
    let is_told : c.is_told.result ≡ true = search rules in
    let kind : c.kind_of-kind.result ≡ type_of scope e = c.kind_of-kind.ensures (λ long. c.is_long.ensures number scope e s told long) in
    let is : result ≡ int_wrap (width_of (type_of scope e)) (unary_result op number) =
    c.changed.ensures ∙ (λ i. int_wrap (width_of (kind i)) (unary_result op (to_z-of_z w64 number c.ranges.a i))) in
    let operand : IsKnownAs scope e s number = c.is_told.ensures number scope e s told is_told in
    as_word scope c.of_type.result result (unary op e) s fits
    (c.of_type.ensures result scope (unary op e) s kind (unary_known scope op e s number result operand is))
