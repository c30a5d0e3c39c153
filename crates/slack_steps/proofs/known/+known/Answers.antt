use Rattle.std.proofs.Common.{rules, ◌≡◌, subst, FitsSigned, w64}
use Rattle.kern_syntax.specs.declared.expression.Argument.TheFolds.{the_lemmas}
use Rattle.kern_syntax.specs.Tree.{binary}
use Rattle.kern_syntax.specs.TreeOf.{expression_of}
use Rattle.kern_names.specs.ScopeOf.{scope_of}
use Rattle.slack_steps.specs.Known.{Tells}
use Rattle.slack_steps.proofs.Parts.{as_word}
use Rattle.slack_steps.proofs.known.+known.Goals as goal

pub find_parts-returns-in-Binary : goal.find_parts-returns-in-Binary
find_parts-returns-in-Binary t c =
    let scope = scope_of c.args.scope.now in
    let s = c.args.state.now in
    let e = expression_of c.args.e.now in
    let left = expression_of c.in-Binary.left.value in
    let right = expression_of c.in-Binary.right.value in
    let found-a = c.find-a-in-Binary.new.found in
    let found-b = c.find-b.new.found in
    let a = c.find-a-in-Binary.result in
    let b = c.find-b.result in
    let result = c.find_binary.result in
    let fits-a : FitsSigned w64 a = search rules in
    let fits-b : FitsSigned w64 b = search rules in
    let fits : FitsSigned w64 result = search rules in
    let tree : e ≡ binary c.in-Binary.operator left right = search (rules, the_lemmas) in
    let first : Tells found-a a scope left s = subst (λ e. Tells found-a a scope (expression_of e) s) c.deref-in-Binary.ensures c.find-a-in-Binary.ensures in
    let second : Tells found-b b scope right s = subst (λ e. Tells found-b b scope (expression_of e) s) c.deref-in-Binary-2.ensures c.find-b.ensures in
    as_word scope c.find_binary.new.found result e s fits
    (c.find_binary.ensures left right s tree (as_word scope found-a a left s fits-a first) (as_word scope found-b b right s fits-b second))
