-- The verdict of the function that runs first.
use Rattle.std.proofs.Common.{◌≡◌, ℕ, List, [], Option, Result, Bor, slice_get, option_map, subst}
use Rattle.limits.specs.Limits.{most_budget}
use Rattle.kern_syntax.specs.declared.program.Function.{Function}
use Rattle.kern_syntax.specs.Tree.{FunctionTree}
use Rattle.kern_syntax.specs.TreeOf.{function_of, tree_of}
use Rattle.timeline_sem.specs.Programs.{call_room}
use Rattle.slack_meaning.specs.declared.verdict.Verdict.{Verdict}
use Rattle.slack_meaning.specs.declared.span.Span.{Span}
use Rattle.slack_meaning.specs.Actions.{Completion, State}
use Rattle.slack_meaning.specs.Programs.{function_call, opening, optional_body, slack_verdict, verdict_of}
use Rattle.slack_state.specs.declared.early.Early.{Early}
use Rattle.slack_state.specs.Does.{Does}

module _ (function cost depth : ℕ) (checked functions : List Function) (first : Option (Bor Function)) where
  -- what its run gives holds of the verdict
  pub holds_of_verdict : (P : Verdict → Type 0) (s left : State) (ran : Result Span Early)
      → functions ≡ checked
      → option_map (λ f. function_of f.now) first ≡ slice_get (tree_of functions) function
      → s ≡ opening most_budget cost depth
      → Does ran left (optional_body (tree_of functions) (function_call (tree_of functions) call_room) (option_map (λ f. function_of f.now) first) [] s)
      → ((m : Completion Span) → Does ran left m → P (verdict_of m))
      → P (slack_verdict (tree_of checked) function cost depth)
  holds_of_verdict P s left ran same found begun does told =
      let whole : List Function → Option FunctionTree → State → Completion Span = λ functions f s. optional_body (tree_of functions) (function_call (tree_of functions) call_room) f [] s in
      let by_place : Does ran left (whole functions (slice_get (tree_of functions) function) (opening most_budget cost depth)) = subst (λ s. Does ran left (whole functions (slice_get (tree_of functions) function) s)) begun (subst (λ f. Does ran left (whole functions f s)) found does) in
      let all : Does ran left (whole checked (slice_get (tree_of checked) function) (opening most_budget cost depth)) = subst (λ functions. Does ran left (whole functions (slice_get (tree_of functions) function) (opening most_budget cost depth))) same by_place in
      told (whole checked (slice_get (tree_of checked) function) (opening most_budget cost depth)) all
