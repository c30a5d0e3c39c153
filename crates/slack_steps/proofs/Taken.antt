-- The branch that an `if` takes where its condition is known, and a block of one statement.
use Rattle.std.proofs.Common.{rules, ◌≡◌, ℕ, ◌<◌, ◌≤◌, true, false, List, [], ◌∷◌, length, get_or, drop-cons, ap, sym, ◌∙◌, arith, Option, option_map}
use Rattle.std.proofs.Math.ListN.{drop_of_length-le}
use Rattle.std.proofs.lemmas.List.{nil_from_length}
use Rattle.std.specs.Prelude.{ℤ, Bool, ⊤}
use Rattle.rtio_types.specs.Integers.{is_true}
use Rattle.kern_syntax.specs.declared.statement.Block.{Block as Statements}
use Rattle.kern_syntax.specs.declared.statement.Elif.{Elif}
use Rattle.kern_syntax.specs.declared.statement.Stmt.{Stmt}
use Rattle.kern_syntax.specs.declared.statement.StmtKind.TheFolds.{the_lemmas}
use Rattle.kern_syntax.specs.Tree.{Expression, Statement, Block, Otherwise, done, if_then, line_then}
use Rattle.kern_syntax.specs.TreeOf.{block_of, branches_of, else_of, line_of, lines_of, statement_of}
use Rattle.kern_calls.specs.Types.{Scope}
use Rattle.slack_meaning.specs.Actions.{State, Action, go_on, as_number, ◌>>=◌}
use Rattle.slack_meaning.specs.Expressions.{Callee}
use Rattle.slack_meaning.specs.Statements.{block, either, otherwise, statement}
use Rattle.slack_steps.specs.Known.{HasRun, IsKnownAs}
use Rattle.slack_steps.proofs.Parts.{number_is}

-- an `if` whose condition is known
pub if_known : (scope : Scope) (callee : Callee) (condition : Expression) (body : Block) (rest : Otherwise) (s : State) (n : ℤ) → IsKnownAs scope condition s n → statement scope callee (if_then condition body rest) s ≡ either (is_true n) (block scope callee body) (otherwise scope callee rest) s
if_known scope callee condition body rest s n known =
    let next : ℤ → Action ⊤ = λ n. either (is_true n) (block scope callee body) (otherwise scope callee rest) in
    ap (λ c. go_on c (λ holds. as_number holds >>= next)) (known callee) ∙ ap (λ c. go_on c next) (number_is n s)

-- it ran where its branch did
pub if_ran : (scope : Scope) (callee : Callee) (condition : Expression) (body : Block) (rest : Otherwise) (s new : State) (n : ℤ) (holds ran : Bool) → IsKnownAs scope condition s n → holds ≡ is_true n → HasRun ran s new (either holds (block scope callee body) (otherwise scope callee rest)) → HasRun ran s new (statement scope callee (if_then condition body rest))
if_ran scope callee condition body rest s new n holds true known is branch =
    if_known scope callee condition body rest s n known
    ∙ ap (λ b. either b (block scope callee body) (otherwise scope callee rest) s) (sym is)
    ∙ branch
if_ran scope callee condition body rest s new n holds false known is branch = branch

-- a block of one statement ran where that did
pub only_ran : (scope : Scope) (callee : Callee) (line : ℕ) (only : Statement) (s new : State) (ran : Bool) → HasRun ran s new (statement scope callee only) → HasRun ran s new (block scope callee (line_then line only done))
only_ran scope callee line only s new true is = ap (λ m. go_on m (λ a. block scope callee done)) is
only_ran scope callee line only s new false is = is

-- a list of one item
one_item : {A : Type 0} (xs : List A) (x : A) → length xs ≡ 1 → x ≡ get_or xs 0 x → xs ≡ x ∷ []
one_item xs x is at =
    let within : 0 < length xs = omega (arith, is) in
    let past : length xs ≤ 1 = omega (arith, is) in
    drop-cons xs 0 x within ∙ (λ i. sym at i ∷ drop_of_length-le xs past i)

-- the tree of one statement
line_first : (only : Stmt) → line_of only done ≡ line_then only.line (statement_of only.kind) done
line_first only = search (rules, the_lemmas)

pub one_line : (lines : List Stmt) (only : Stmt) → length lines ≡ 1 → only ≡ get_or lines 0 only → lines_of lines ≡ line_then only.line (statement_of only.kind) done
one_line lines only is at = ap lines_of (one_item lines only is at) ∙ line_first only

-- an `if` without an `elif`
pub no_branches : (branches : List Elif) (last : Option Statements) → length branches ≡ 0 → branches_of branches last ≡ else_of (option_map block_of last)
no_branches branches last is = ap (λ b. branches_of b last) (nil_from_length branches is)
