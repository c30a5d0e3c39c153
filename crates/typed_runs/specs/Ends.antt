-- Ends at which the names have values of their types, what is given has its own, and nothing is left that may not be.
use Rattle.std.specs.Prelude.{◌≡◌, List, ℤ, true, false, Option}
use Rattle.rtio_types.specs.declared.request.Value.{Value}
use Rattle.kern_syntax.specs.declared.program.DeclaredType.{DeclaredType}
use Rattle.kern_syntax.specs.Tree.{Bytes}
use Rattle.kern_calls.specs.Types.{Names}
use Rattle.kern_judgement.specs.Fitting.{Standing}
use Rattle.timeline_sem.specs.Actions.{Reason, break, continue, return, raised}
use Rattle.timeline_sem.specs.Actions.{budget, unanswered, Completion, normal, early}
use Rattle.typed_runs.specs.Values.{HaveValues, IsResultOf}

-- within an expression, which leaves neither a loop nor the function
abbrev pub in_an_expression : Standing → Standing
in_an_expression here = record here { in_loop = false; may_return = false }

-- what stands here may end early for this reason: by a `break` or a `continue` only where it may leave a loop, and by a
-- `return` only where it may leave the function, with what the function gives
abbrev pub MayEndBy : Standing → Reason → Type 0
MayEndBy here break = here.in_loop ≡ true
MayEndBy here continue = here.in_loop ≡ true
MayEndBy here (return v) = (here.may_return ≡ true) × IsResultOf here.result v
MayEndBy here (raised x) = Unit {0}
MayEndBy here budget = Unit {0}
MayEndBy here unanswered = Unit {0}

-- a part that stands here ends with values of these names' types, normally
-- with what has this property, and early only for a reason for which it may
abbrev pub EndsTyped : (names : Names) (here : Standing) {A : Type 0} → (A → Type 0) → Completion A → Type 0
EndsTyped names here P (normal a s) = P a × HaveValues names s.values
EndsTyped names here P (early reason s) = MayEndBy here reason × HaveValues names s.values

-- a call ends with the caller's values, which are those from before it; at a normal end it gives what the function
-- gives, and it never ends by a `break`, a `continue` or a `return`
abbrev pub EndsCall : (result : Option DeclaredType) (values : List (Bytes × Value)) → Completion ℤ → Type 0
EndsCall result values (normal v s) = IsResultOf result v × (s.values ≡ values)
EndsCall result values (early break s) = ⊥
EndsCall result values (early continue s) = ⊥
EndsCall result values (early (return v) s) = ⊥
EndsCall result values (early (raised x) s) = s.values ≡ values
EndsCall result values (early budget s) = s.values ≡ values
EndsCall result values (early unanswered s) = s.values ≡ values
