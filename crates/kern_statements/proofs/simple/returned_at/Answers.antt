use Rattle.std.proofs.Common.{sym, ap, subst, ◌∙◌}
use Rattle.kern_grammar.specs.SimplePlans.{returned}
use Rattle.kern_expressions.specs.TakenBy.{GivesTaken, lexemes_left, perform}
use Rattle.kern_statements.specs.LineSteps.{line_of_statement, on}
use Rattle.kern_grammar.specs.Views.{is_seen, line_end}
use Rattle.kern_statements.proofs.Performed.{first_kind, peeked, no_line_end}
use Rattle.kern_statements.proofs.simple.returned_at.Goals as goal

pub returns-in_default : goal.returns-in_default
returns-in_default c =
    let same = peeked (λ t. returned (on c.args.line) (is_seen (line_end t.symbol))) c.args.tokens c.in-len1-up.len_at_least ∙ ap (λ b. perform (returned (on c.args.line) b) (lexemes_left c.args.tokens)) (no_line_end c.args.tokens.text.now _ _ (first_kind c.args.tokens) c.in_default.not-Newline) in
    subst (GivesTaken line_of_statement c.returned_value_at.result) (sym same) c.returned_value_at.ensures
