use Rattle.std.proofs.Common.{refl, sym, ◌∙◌, subst}
use Rattle.kern_grammar.specs.SimplePlans.{more_elements, take_expression}
use Rattle.kern_expressions.specs.Kept.{KeptAs, ReadAs}
use Rattle.kern_expressions.specs.TakenBy.{GivesTaken, lexemes_left, perform}
use Rattle.kern_statements.specs.LineSteps.{closed_elements, line_of_statement, on}
use Rattle.kern_statements.proofs.Arrays.{lone_element, several_elements}
use Rattle.kern_statements.proofs.Going.{goes, stops}
use Rattle.kern_statements.proofs.simple.array_at.Goals as goal

pub returns-in_err-first : goal.returns-in_err-first
returns-in_err-first c = λ x k.
    stops ReadAs (KeptAs line_of_statement) c.in_err-first.field-0.0 c.from_residual.result _ (take_expression 15 (lexemes_left c.args.tokens)) (λ e. perform (more_elements (closed_elements (on c.args.line) x e.0)) e.1) refl c.in_err-first.ensures c.from_residual.ensures.1

pub returns-then-begins_with_comma : goal.returns-then-begins_with_comma
returns-then-begins_with_comma c = λ x k.
    goes ReadAs (KeptAs line_of_statement) c.in_ok-first.first c.in_ok-first.rest c.elements_at.result _ (take_expression 15 (lexemes_left c.args.tokens)) (λ e. perform (more_elements (closed_elements (on c.args.line) x e.0)) e.1) refl c.in_ok-first.ensures
    (λ e r. subst (GivesTaken line_of_statement c.elements_at.result) (sym (several_elements (on c.args.line) x e (lexemes_left c.in_ok-first.rest) (sym c.begins_with_comma.ensures ∙ c.if-begins_with_comma.true))) (c.elements_at.ensures x e k r))

pub returns-else-begins_with_comma : goal.returns-else-begins_with_comma
returns-else-begins_with_comma c = λ x k.
    goes ReadAs (KeptAs line_of_statement) c.in_ok-first.first c.in_ok-first.rest c.lone_element_at.result _ (take_expression 15 (lexemes_left c.args.tokens)) (λ e. perform (more_elements (closed_elements (on c.args.line) x e.0)) e.1) refl c.in_ok-first.ensures
    (λ e r. subst (GivesTaken line_of_statement c.lone_element_at.result) (sym (lone_element (on c.args.line) x e (lexemes_left c.in_ok-first.rest) (sym c.begins_with_comma.ensures ∙ c.if-begins_with_comma.false))) (c.lone_element_at.ensures x e k r))
