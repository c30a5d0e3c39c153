-- The meaning of the function that runs first.
use Rattle.std.proofs.Common.{◌≡◌, ℕ, List, Option, Result, Bor, slice_get, option_map, subst}
use Rattle.std.specs.Prelude.{ℤ}
use Rattle.kern_syntax.specs.declared.program.Function.{Function}
use Rattle.kern_syntax.specs.Tree.{FunctionTree}
use Rattle.kern_syntax.specs.TreeOf.{function_of, tree_of}
use Rattle.rtio_types.specs.declared.request.Reply.{Reply}
use Rattle.meaning_state.specs.declared.early.Early.{Early}
use Rattle.meaning_state.specs.Does.{Does}
use Rattle.timeline_sem.specs.Actions.{Completion, State}
use Rattle.timeline_sem.specs.Programs.{Meaning, call_room, function_call, meaning, meaning_of, opening, optional_body}

module _ (function : ℕ) (args : List ℤ) (checked functions : List Function) (first : Option (Bor Function)) where
  -- what its run gives is the meaning
  pub gives_meaning : (cursor : ℤ) (units : ℕ) (replies : List Reply) (s left : State) (ran : Result ℤ Early) (gives : Meaning)
      → functions ≡ checked
      → option_map (λ f. function_of f.now) first ≡ slice_get (tree_of functions) function
      → s ≡ opening cursor units replies
      → Does ran left (optional_body (tree_of functions) (function_call (tree_of functions) call_room) (option_map (λ f. function_of f.now) first) args s)
      → ((m : Completion ℤ) → Does ran left m → meaning_of m ≡ gives)
      → meaning (tree_of checked) function args cursor units replies ≡ gives
  gives_meaning cursor units replies s left ran gives same found begun does told =
      let whole : List Function → Option FunctionTree → State → Completion ℤ = λ functions f s. optional_body (tree_of functions) (function_call (tree_of functions) call_room) f args s in
      let by_place : Does ran left (whole functions (slice_get (tree_of functions) function) (opening cursor units replies)) = subst (λ s. Does ran left (whole functions (slice_get (tree_of functions) function) s)) begun (subst (λ f. Does ran left (whole functions f s)) found does) in
      let all : Does ran left (whole checked (slice_get (tree_of checked) function) (opening cursor units replies)) = subst (λ functions. Does ran left (whole functions (slice_get (tree_of functions) function) (opening cursor units replies))) same by_place in
      told (whole checked (slice_get (tree_of checked) function) (opening cursor units replies)) all
