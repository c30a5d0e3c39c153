use Rattle.std.proofs.Common.{◌∙◌, List, ap, map, sym}
use Rattle.kern_syntax.specs.TreeOf.{expression_of}
use Rattle.kern_grammar.specs.Plans.{Spells, many, run}
use Rattle.kern_grammar.specs.SimplePlans.{comma_element, expression_stop, is_comma}
use Rattle.kern_grammar.proofs.SimpleReady.{begins-comma, takes-element}
use Rattle.kern_expressions.specs.Kept.{ReadAs}
use Rattle.kern_expressions.specs.TakenBy.{lexemes_left}
use Rattle.kern_statements.proofs.ManyLists.{item-ends, item_shorter, no-more, none-yet, one-more}
use Rattle.kern_statements.proofs.simple.more_elements_at.Goals as goal

pub items-init : goal.items-init
items-init c = none-yet (λ v. map expression_of v.items) c.new.result is_comma (run comma_element) (lexemes_left c.args.tokens) (ap (map expression_of) c.new.ensures.items)

pub returns-in_err-element : goal.returns-in_err-element
returns-in_err-element c =
    let begins = sym c.begins_with_comma.ensures ∙ c.items-test.true in
    let whole = many is_comma (run comma_element) (lexemes_left c.args.tokens) in
    item-ends (λ v. map expression_of v.items) ReadAs c.items.elements is_comma (run comma_element) (lexemes_left c.items.rest) whole c.items.invariant begins c.in_err-element.field-0.0 c.from_residual.result c.in_err-element.ensures c.from_residual.ensures.1

pub items-smaller : goal.items-smaller
items-smaller c =
    item_shorter ReadAs (Spells comma_element) expression_stop is_comma (run comma_element) takes-element begins-comma (lexemes_left c.items.rest) c.in_ok-element.element c.in_ok-element.behind c.in_ok-element.ensures

pub items-preserved : goal.items-preserved
items-preserved c =
    let whole = many is_comma (run comma_element) (lexemes_left c.args.tokens) in
    one-more (λ v. v.items) expression_of ReadAs (Spells comma_element) expression_stop is_comma (run comma_element) takes-element begins-comma c.items.elements (lexemes_left c.items.rest) whole c.items.invariant c.in_ok-element.element c.in_ok-element.behind c.in_ok-element.ensures c.tree.result c.pushed-elements.result c.tree.ensures c.pushed-elements.ensures

pub returns : goal.returns
returns c =
    let whole = many is_comma (run comma_element) (lexemes_left c.args.tokens) in
    no-more (λ v. map expression_of v.items) c.items.elements is_comma (run comma_element) c.items.rest whole c.items.invariant (sym c.begins_with_comma.ensures ∙ c.items-test.false)
