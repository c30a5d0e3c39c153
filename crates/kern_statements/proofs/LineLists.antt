-- A statement that is put behind others.
use Rattle.std.proofs.Common.{◌≡◌, ◌≤◌, ◌∙◌, Global, List, [], ◌∷◌, ◌++◌, Vec, ap, drop, length, map, refl}
use Rattle.std.specs.Prelude.{Option, Some, None, Result, Ok, Err}
use Rattle.kern_lexer.specs.Symbols.{Lexeme}
use Rattle.kern_syntax.specs.declared.statement.Stmt.{Stmt}
use Rattle.kern_lexer.specs.declared.token.TokenKind.TheVariants as T
use Rattle.kern_syntax.specs.Tree.{Expression, Statement, evaluate}
use Rattle.kern_grammar.specs.Plans.{Taken, ◌>>=◌, token}
use Rattle.kern_grammar.specs.Reading.{choose}
use Rattle.kern_grammar.specs.SimplePlans.{Line, deed_plan}
use Rattle.kern_grammar.specs.Views.{Place, deed, deed_of, ends, place_of}
use Rattle.kern_expressions.specs.Kept.{AddsItem, KeptAs}
use Rattle.kern_expressions.specs.TakenBy.{GivesTaken, lexemes_left, perform}
use Rattle.kern_expressions.specs.declared.tokens.Tokens.{Tokens}
use Rattle.kern_expressions.specs.declared.tokens.WrongToken.{WrongToken}
use Rattle.kern_expressions.proofs.Keeping.{keeps-more}
use Rattle.kern_statements.specs.LineSteps.{line_of_statement}
use Rattle.kern_statements.specs.Several.{one_behind}
use Rattle.kern_statements.proofs.Going.{goes, stops}
use Rattle.kern_statements.proofs.Performed.{first_as, first_kind, front}

-- what the code's lists of statements stand for
abbrev pub lines_of : Vec Stmt Global → List Line
lines_of v = map line_of_statement v.items

-- one more is read behind what was read before it
pub behind_then : {X Y : Type 0} (xs : List X) (r : Taken Y) (f : Y × List Lexeme → Taken X) → one_behind xs (r >>= f) ≡ (r >>= λ y. one_behind xs (f y))
behind_then xs (Ok y) f = refl
behind_then xs (Err left) f = refl

pub line-behind : (others : Option (Vec Stmt Global)) (statement : Option Stmt) (after : Option (Vec Stmt Global)) (rest : Tokens) (xs : List Line) (taken : Taken Line) → KeptAs lines_of others xs → GivesTaken line_of_statement (Ok (statement, rest)) taken → AddsItem (λ v. v.items) others statement after → GivesTaken lines_of (Ok (after, rest)) (one_behind xs taken)
line-behind others statement after rest xs taken k g a =
    goes (KeptAs line_of_statement) (KeptAs lines_of) statement rest (Ok (after, rest)) (one_behind xs taken) taken (λ x. Ok (xs ++ x.0 ∷ [], x.1)) refl g
    (λ x i. (keeps-more (λ v. v.items) line_of_statement others statement after xs x a k i, refl))

pub line-ends : (wrong : WrongToken) (xs : List Line) (taken : Taken Line) → GivesTaken line_of_statement (Err wrong) taken → GivesTaken lines_of (Err wrong) (one_behind xs taken)
line-ends wrong xs taken g =
    stops (KeptAs line_of_statement) (KeptAs lines_of) wrong (Err wrong) (one_behind xs taken) taken (λ x. Ok (xs ++ x.0 ∷ [], x.1)) refl g refl

alone_by : {A : Type 0} (build : Statement → A) (e : Expression) (place : Option Place) (t : Lexeme) (rest : List Lexeme) → (choose (deed_of place (Some ends)) (Err (t ∷ rest)) (λ v. Ok (v, rest)) >>= λ v. perform (deed_plan build e v.0) v.1) ≡ Ok (build (evaluate e), rest)
alone_by build e None t rest = refl
alone_by build e (Some p) t rest = refl

-- an expression at the end of its line stands alone
pub alone_there : {A : Type 0} (build : Statement → A) (e : Expression) (tokens rest : Tokens) → 1 ≤ length tokens.list.now → first_kind tokens ≡ T.Newline → lexemes_left rest ≡ drop 1 (lexemes_left tokens) → perform (token (deed e) (deed_plan build e)) (lexemes_left tokens) ≡ Ok (build (evaluate e), lexemes_left rest)
alone_there build e tokens rest h k l =
    ap (perform (token (deed e) (deed_plan build e))) (front tokens rest T.Newline h k l) ∙ alone_by build e (place_of e) (first_as tokens T.Newline) (lexemes_left rest)
