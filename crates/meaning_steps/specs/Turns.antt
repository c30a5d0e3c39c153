-- Parts of statements: one that says whether what comes next runs, and what is set before a turn or after a sum.
use Rattle.std.specs.Prelude.{◌≡◌, ℤ, Bool, true, false, Result, Ok, Err, ⊤}
use Rattle.meaning_state.specs.declared.early.Early.{Early}
use Rattle.meaning_state.specs.Does.{EndsAs}
use Rattle.rtio_types.specs.declared.request.Value.TheVariants as W
use Rattle.kern_syntax.specs.declared.statement.Augment.{Augment}
use Rattle.kern_syntax.specs.Tree.{Bytes, variable}
use Rattle.kern_calls.specs.declared.types.ValueType.TheVariants.{Int64}
use Rattle.kern_calls.specs.Types.{Scope, type_of}
use Rattle.timeline_sem.specs.Actions.{State, Completion, Action, normal, ◌>>=◌, ◌>>◌}
use Rattle.timeline_sem.specs.Expressions.{operate, write, write_element}
use Rattle.timeline_sem.specs.Statements.{operator_of}

-- where the answer is true the next part goes on from what is left, where
-- it is false all is done; or the part ends early, unless memory ran out
abbrev pub GoesOn : Result Bool Early → (left : State) → (meant : Completion ⊤) → (next : Action ⊤) → Type 0
GoesOn (Ok true) left meant next = meant ≡ next left
GoesOn (Ok false) left meant next = meant ≡ normal tt left
GoesOn (Err end) left meant next = EndsAs end left meant

-- a name is set to a number before a part
abbrev pub set_then : Bytes → ℤ → Action ⊤ → Action ⊤
set_then x n body = write x (W.Int n) >> body

-- an element becomes what was read from it and what is added
abbrev pub set_sum : Bytes → (place : ℤ) → Augment → (held added : ℤ) → Action ⊤
set_sum x place op held added = operate (operator_of op) Int64 held added >>= write_element x place

-- a name becomes what it held and what is added, wrapped at the width of its type
abbrev pub hold_sum : Scope → Bytes → Augment → (held added : ℤ) → Action ⊤
hold_sum scope x op held added = operate (operator_of op) (type_of scope (variable x)) held added >>= (λ new. write x (W.Int new))
