use Rattle.std.proofs.Common.{◌≡◌, ◌||◌, is_some, ap, subst, sym, ◌∙◌}
use Rattle.kern_syntax.specs.TreeOf.{tree_of}
use Rattle.kern_calls.specs.Types.{function_named}
use Rattle.kern_expression_types.specs.Answers.{Finds}
use Rattle.kern_expression_types.specs.Before.{is_reserved}
use Rattle.kern_expression_types.specs.declared.fault.TypeKind.TheVariants as K
use Rattle.kern_expression_types.specs.Verdicts.{refuse_if}
use Rattle.kern_types.proofs.Passed.{is_some-named}
use Rattle.kern_types.proofs.program.check_name.Goals as goal
use Rattle.kern_types.proofs.program.check_name.Goals.{then-is_named, else-is_named}

pub returns : goal.returns
returns c =
    let earlier = c.args.earlier.now in
    let name = c.bytes-name.result.now in
    let named : is_some (function_named (tree_of earlier) name) ≡ c.is_named.result = sym (c.is_named.ensures ∙ is_some-named earlier name) in
    let taken : c.if-is_named.is_taken ≡ (is_some (function_named (tree_of earlier) name) || is_reserved name) =
    elim c.if-is_named.branch [
      | then-is_named w ↦ w.is_taken-is ∙ w.if-is_named.true ∙ sym (ap (λ b. b || is_reserved name) (named ∙ w.if-is_named.true))
      | else-is_named w ↦ w.is_taken-is ∙ w.is_reserved-is_taken.ensures ∙ sym (ap (λ b. b || is_reserved name) (named ∙ w.if-is_named.false))
    ] in
    let all = taken ∙ ap (λ x. is_some (function_named (tree_of earlier) x) || is_reserved x) c.bytes-name.ensures in
    subst (λ b. Finds c.refuse_if.result (refuse_if b c.args.function.now.line K.Name)) all c.refuse_if.ensures
