-- What is known of a value before it is asked for.
use Rattle.std.specs.Prelude.{◌≡◌, ℕ, ℤ, Bool, true, false, Option, Some, None, option_map, ⊤}
use Rattle.std.specs.Int.{int_wrap}
use Rattle.kern_syntax.specs.declared.expression.BinaryOperator.{BinaryOperator}
use Rattle.kern_syntax.specs.Tree.{Expression}
use Rattle.kern_calls.specs.declared.types.ValueType.{ValueType}
use Rattle.kern_calls.specs.declared.types.ValueType.TheVariants.{Int64}
use Rattle.kern_calls.specs.Types.{Scope, bits_of, type_of, width_of}
use Rattle.timeline_sem.specs.Numbers.{exact_result}
use Rattle.slack_meaning.specs.declared.span.Span.{Span}
use Rattle.slack_meaning.specs.Spans.{exactly}
use Rattle.slack_meaning.specs.Actions.{State, Action, normal, number}
use Rattle.slack_meaning.specs.Expressions.{Callee, expression}
use Rattle.slack_state.specs.Entries.{with_held_at}
use Rattle.slack_steps.specs.declared.known.Found.{Found}
use Rattle.slack_steps.specs.declared.known.Found.TheVariants as F

-- an operator's result, whatever its type
abbrev pub IsResult : BinaryOperator → ℤ → ℤ → ℤ → Type 0
IsResult op a b n = (t : ValueType) → option_map (int_wrap (width_of t)) (exact_result op (bits_of t) a b) ≡ Some n

-- an expression is a number and changes nothing, whatever calls do
abbrev pub IsKnownAs : Scope → Expression → State → ℤ → Type 0
IsKnownAs scope e s n = (callee : Callee) → expression scope callee e s ≡ normal (exactly n) s

-- a number that was found for an expression is worth so much
abbrev pub Tells : Found → ℤ → Scope → Expression → State → Type 0
Tells F.Nothing n scope e s = Unit {0}
Tells F.Number n scope e s = IsKnownAs scope e s n
Tells F.Long n scope e s = IsKnownAs scope e s n × (type_of scope e ≡ Int64)

-- a part ran, or is still to run
abbrev pub HasRun : Bool → (old new : State) → Action ⊤ → Type 0
HasRun true old new does = does old ≡ normal tt new
HasRun false old new does = new ≡ old

-- a place holds a number from now on, if there is one
abbrev pub HoldsNext : Bool → ℕ → Option ℤ → (old new : State) → Type 0
HoldsNext true place (Some n) old new = new ≡ record old { values = with_held_at old.values place (number (exactly n)) }
HoldsNext true place None old new = ⊥
HoldsNext false place (Some n) old new = ⊥
HoldsNext false place None old new = new ≡ old

-- a number that was found is a span, or worth nothing
abbrev pub IsSpan : Found → ℤ → Span → Type 0
IsSpan F.Nothing n span = Unit {0}
IsSpan F.Number n span = ⊥
IsSpan F.Long n span = span ≡ exactly n
