-- Lists of values, and the first of some arguments.
use Rattle.std.specs.Prelude.{◌≡◌, List, Option, Some, None, Result, Ok, Err, Vec}
use Rattle.std.specs.Global.{Global}
use Rattle.kern_syntax.specs.Tree.{Arguments, no_more, value_then, text_then}
use Rattle.kern_calls.specs.Types.{Scope}
use Rattle.slack_meaning.specs.declared.span.Span.{Span}
use Rattle.slack_meaning.specs.Actions.{State, Completion, Action, normal, give, ◌>>=◌}
use Rattle.slack_meaning.specs.Expressions.{Callee, expression}
use Rattle.slack_state.specs.declared.early.Early.{Early}
use Rattle.slack_state.specs.Does.{EndsAs}

-- a part gives the values that it is to give and leaves the state so, or ends early as it is to, unless memory ran out
abbrev pub DoesItems : {A : Type 0} → Result (Vec A Global) Early → (left : State) → Completion (List A) → Type 0
DoesItems (Ok v) left does = does ≡ normal v.items left
DoesItems (Err end) left does = EndsAs end left does

-- the value of the first argument, none of a text
abbrev pub first_argument : Scope → Callee → Arguments → Action (Option Span)
first_argument scope callee no_more = give None
first_argument scope callee (value_then e rest) = do
  a ← expression scope callee e
  give (Some a)
first_argument scope callee (text_then text rest) = give None
