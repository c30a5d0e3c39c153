-- For the proofs alone: the steps of the code that reads statements on
-- one line, which are parts of the plans, and what its values stand for.
use Rattle.std.specs.Prelude.{ℕ, List, ◌∷◌, Option, Some, None}
use Rattle.kern_lexer.specs.Bytes.{Bytes}
use Rattle.kern_syntax.specs.declared.statement.Augment.{Augment}
use Rattle.kern_syntax.specs.declared.statement.Stmt.{Stmt}
use Rattle.kern_syntax.specs.declared.statement.StmtKind.{StmtKind}
use Rattle.kern_syntax.specs.declared.statement.StmtKind.TheFolds.{fold-StmtKind}
use Rattle.kern_syntax.specs.declared.statement.Target.{Target}
use Rattle.kern_syntax.specs.declared.statement.Target.TheVariants as T
use Rattle.kern_syntax.specs.Tree.{Expression, Statement, assign, assign_element, assign_list, augment, augment_element}
use Rattle.kern_syntax.specs.Tree as Tree
use Rattle.kern_syntax.specs.TreeOf.{Before, expression_of, statement_step}
use Rattle.kern_syntax.specs.TreeOf.{block_step, elif_step, handler_step, line_step}
use Rattle.kern_expressions.specs.Kept.{IsNamed, KeptAs}
use Rattle.kern_statements.specs.declared.parts.ReadPlace.{ReadPlace}
use Rattle.kern_statements.specs.declared.parts.ReadPlace.TheVariants as P
use Rattle.kern_grammar.specs.Plans.{Plan, token, peek}
use Rattle.kern_grammar.specs.SimplePlans.{Line, an_expression, array_end, assigned, end_line, more_elements}
use Rattle.kern_grammar.specs.Views.{Place, to_name, to_element, close_bracket, is_seen, open_bracket}

-- the tree of a statement without its line
abbrev pub statement_of : StmtKind → Statement
statement_of = fold-StmtKind Tree.Statement Tree.Block (Before Tree.Otherwise) (Before Tree.Handlers) (Before Tree.Block) statement_step block_step elif_step handler_step line_step

-- what a statement is, and the line that it begins on
abbrev pub line_of_statement : Stmt → Line
line_of_statement s = (s.line, statement_of s.kind)

-- what a target assigns to
abbrev pub place_of_target : Target → Place
place_of_target (T.Variable x) = to_name x
place_of_target (T.Element x i) = to_element x (expression_of i)

-- a statement that begins on a line
abbrev pub on : ℕ → Statement → Line
on line s = (line, s)

-- the value of an assignment, by what is assigned to
abbrev pub place_plan : {A : Type 0} → (Statement → A) → Place → Plan A
place_plan build (to_name x) = peek (λ t. assigned build x (is_seen (open_bracket t.symbol)))
place_plan build (to_element x i) = an_expression 16 (λ v. end_line (build (assign_element x i v)))

-- an array from its closing bracket on
abbrev pub closed_elements : {A : Type 0} → (Statement → A) → Bytes → Expression → List Expression → Plan A
closed_elements build x e more = token close_bracket (λ seen. array_end build x e more)

-- an array of several elements, behind the first
abbrev pub elements_plan : {A : Type 0} → (Statement → A) → Bytes → Expression → Plan A
elements_plan build x e =
    more_elements (λ more. token close_bracket (λ seen. end_line (build (assign_list x (e ∷ more)))))

-- an array behind its opening bracket
abbrev pub array_plan : {A : Type 0} → (Statement → A) → Bytes → Plan A
array_plan build x = an_expression 15 (λ e. more_elements (λ more. closed_elements build x e more))

-- an assignment to a place
abbrev pub assign_at : Place → Expression → Statement
assign_at (to_name x) e = assign x e
assign_at (to_element x i) e = assign_element x i e

abbrev pub augment_at : Place → Augment → Expression → Statement
augment_at (to_name x) op e = augment x op e
augment_at (to_element x i) op e = augment_element x i op e

-- what a statement assigns to, unless it was lost, is this place
abbrev pub IsPlace : ReadPlace → Place → Type 0
IsPlace (P.Name name) (to_name x) = IsNamed name x
IsPlace (P.Element target) (to_element x i) = KeptAs place_of_target target (to_element x i)
IsPlace place p = ⊥

-- it is the place that an expression has, if any
abbrev pub HasPlace : Option ReadPlace → Option Place → Type 0
HasPlace (Some place) (Some p) = IsPlace place p
HasPlace None None = Unit {0}
HasPlace place p = ⊥
