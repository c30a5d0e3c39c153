use Rattle.std.proofs.Common.{ℕ, List, subst}
use Rattle.std.specs.Prelude.{Option, Result}
use Rattle.kern_lexer.specs.Symbols.{Lexeme}
use Rattle.kern_syntax.specs.declared.statement.Stmt.{Stmt}
use Rattle.kern_syntax.specs.declared.statement.Target.{Target}
use Rattle.kern_grammar.specs.SimplePlans.{an_expression, end_line}
use Rattle.kern_grammar.specs.Views.{Place, to_element, to_name}
use Rattle.kern_expressions.specs.TakenBy.{GivesTaken, lexemes_left, perform}
use Rattle.kern_expressions.specs.declared.tokens.Tokens.{Tokens}
use Rattle.kern_expressions.specs.declared.tokens.WrongToken.{WrongToken}
use Rattle.kern_statements.specs.LineSteps.{IsPlace, assign_at, line_of_statement, on, place_plan}
use Rattle.kern_statements.specs.declared.parts.ReadPlace.TheVariants as P
use Rattle.kern_statements.proofs.simple.assigned_at.Goals as goal

-- an element is assigned an expression
to_element_there : (line : ℕ) (target : Option Target) (p : Place) (result : Result (Option Stmt × Tokens) WrongToken) (tokens : List Lexeme) → IsPlace (P.Element target) p → GivesTaken line_of_statement result (perform (an_expression 16 (λ e. end_line (on line (assign_at p e)))) tokens) → GivesTaken line_of_statement result (perform (place_plan (on line) p) tokens)
to_element_there line target (to_name x) result tokens k g = absurd k
to_element_there line target (to_element x i) result tokens k g = g

pub returns-in-Element : goal.returns-in-Element
returns-in-Element c = λ p k.
    let there = subst (λ place. IsPlace place p) c.in-Element.is k in
    to_element_there c.args.line c.in-Element.target p c.assigned_value_at.result (lexemes_left c.args.tokens) there (c.assigned_value_at.ensures p there)
