-- Going from statement to statement, as far as each is known.
use Rattle.std.proofs.Common.{rules, ◌≡◌, ℕ, suc, ◌-◌, ◌+◌, ◌<◌, List, length, get_or, take, drop, drop-cons, add-one, ap, sym, subst, ◌∙◌, arith}
use Rattle.std.specs.Prelude.{Bool, true, false, ⊤}
use Rattle.std.proofs.lemmas.List.{length-drop, take_all}
use Rattle.kern_syntax.specs.declared.statement.Stmt.{Stmt}
use Rattle.kern_syntax.specs.declared.statement.StmtKind.TheFolds.{the_lemmas}
use Rattle.kern_syntax.specs.Tree.{Block, line_then}
use Rattle.kern_syntax.specs.TreeOf.{line_of, lines_of, statement_of}
use Rattle.kern_calls.specs.Types.{Scope}
use Rattle.slack_meaning.specs.Actions.{State, Action, normal, go_on}
use Rattle.slack_meaning.specs.Expressions.{Callee}
use Rattle.slack_meaning.specs.Statements.{block, statement}
use Rattle.slack_steps.specs.Known.{HasRun}

-- all items from a place on
pub tail : {A : Type 0} (at : ℕ) (xs : List A) → take (length xs - at) (drop at xs) ≡ drop at xs
tail at xs = take_all (length xs - at) (drop at xs) (omega (arith, length-drop at xs))

-- the tree of a statement before others
pub line_before : (line : Stmt) (rest : Block) → line_of line rest ≡ line_then line.line (statement_of line.kind) rest
line_before line rest = search (rules, the_lemmas)

-- the statement at a place comes before the others from there on
pub line_at : (lines : List Stmt) (i : ℕ) (line : Stmt) → i < length lines → line ≡ get_or lines i line → lines_of (drop i lines) ≡ line_then line.line (statement_of line.kind) (lines_of (drop (i + 1) lines))
line_at lines i line within is =
    ap lines_of (drop-cons lines i line within)
    ∙ ap (λ l. line_of l (lines_of (drop (suc i) lines))) (sym is)
    ∙ line_before line (lines_of (drop (suc i) lines))
    ∙ ap (λ n. line_then line.line (statement_of line.kind) (lines_of (drop n lines))) (sym (add-one i))

module _ (scope : Scope) (callee : Callee) where
  -- one statement more ran
  pub line_ran : (lines : List Stmt) (i : ℕ) (line : Stmt) (s new : State) (ran : Bool) → i < length lines → line ≡ get_or lines i line → ran ≡ true → HasRun ran s new (statement scope callee (statement_of line.kind)) → block scope callee (lines_of (drop i lines)) s ≡ block scope callee (lines_of (drop (i + 1) lines)) new
  line_ran lines i line s new ran within is so did =
      let done : statement scope callee (statement_of line.kind) s ≡ normal tt new = subst (λ b. HasRun b s new (statement scope callee (statement_of line.kind))) so did in
      ap (λ b. block scope callee b s) (line_at lines i line within is)
      ∙ ap (λ m. go_on m (λ a. block scope callee (lines_of (drop (i + 1) lines)))) done

  -- one that didn't run left all as it was
  pub line_stayed : (rest : Block) (s new : State) (ran : Bool) (does : Action ⊤) → ran ≡ false → HasRun ran s new does → block scope callee rest s ≡ block scope callee rest new
  line_stayed rest s new ran does isnt did =
      let same : new ≡ s = subst (λ b. HasRun b s new does) isnt did in
      ap (λ left. block scope callee rest left) (sym same)
