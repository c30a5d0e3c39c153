use Rattle.std.proofs.Common.{rules, ◌≡◌, subst}
use Rattle.kern_syntax.specs.declared.expression.Argument.TheFolds.{the_lemmas}
use Rattle.kern_syntax.specs.Tree.{binary}
use Rattle.kern_syntax.specs.TreeOf.{expression_of}
use Rattle.kern_calls.specs.Types.{type_of}
use Rattle.kern_calls.specs.declared.types.ValueType.TheVariants.{Int64}
use Rattle.kern_names.specs.ScopeOf.{scope_of}
use Rattle.slack_steps.proofs.Parts.{type_by_left}
use Rattle.slack_steps.proofs.kinds.+begins_long.Goals as goal

pub returns-in-Binary : goal.returns-in-Binary
returns-in-Binary t c long =
    let scope = scope_of c.args.scope.now in
    let e = expression_of c.args.e.now in
    let op = c.in-Binary.field-0 in
    let left = expression_of c.in-Binary.left.value in
    let right = expression_of c.in-Binary.field-2.value in
    let tree : e ≡ binary op left right = search (rules, the_lemmas) in
    let first : type_of scope left ≡ Int64 = subst (λ e. type_of scope (expression_of e) ≡ Int64) c.deref-in-Binary.ensures (c.begins_long-in-Binary.ensures long) in
    type_by_left scope op left right e tree first
