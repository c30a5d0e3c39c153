-- What running asks of expressions, which a checked program
-- gives: literals of 64 bits, and a text where a call takes one.
use Rattle.std.specs.Prelude.{◌≡◌, ◌<◌, ◌^◌, ℤ, Bool, true, false, Option, Some, None}
use Rattle.kern_syntax.specs.Tree.{Bytes, Expression, integer, true_literal, false_literal, variable}
use Rattle.kern_syntax.specs.Tree.{element, group, unary, binary, compare, negation, conjunction}
use Rattle.kern_syntax.specs.Tree.{disjunction, call, method, Arguments, no_more, value_then, text_then}
use Rattle.kern_calls.specs.declared.calls.Builtin.{Builtin}
use Rattle.kern_calls.specs.declared.calls.Builtin.TheVariants as B
use Rattle.kern_calls.specs.declared.calls.Operation.{Operation}
use Rattle.kern_calls.specs.Calls.{builtin_named, method_named}
use Rattle.kern_calls.specs.Types.{Scope}
use Rattle.meaning_state.specs.Texts.{operation_takes_text}
use Rattle.timeline_sem.specs.Actions.{Action, give, ◌>>=◌}
use Rattle.timeline_sem.specs.Expressions.{Callee, expression, array_in}

-- there is a text among arguments
abbrev pub has_text : Arguments → Bool
has_text no_more = false
has_text (value_then e rest) = has_text rest
has_text (text_then text rest) = true

-- the array that is the first value among arguments, if it is one
abbrev pub array_argument : Scope → Arguments → Option Bytes
array_argument scope no_more = None
array_argument scope (text_then text rest) = array_argument scope rest
array_argument scope (value_then e rest) = array_in scope e

-- the value of the first argument, none of a text
abbrev pub first_argument : Scope → Callee → Arguments → Action (Option ℤ)
first_argument scope callee no_more = give None
first_argument scope callee (value_then e rest) = do
  a ← expression scope callee e
  give (Some a)
first_argument scope callee (text_then text rest) = give None

-- a function of the language has its text, if it takes one
abbrev pub BuiltinIsTold : Builtin → Arguments → Type 0
BuiltinIsTold B.SetDataset args = has_text args ≡ true
BuiltinIsTold _ args = Unit {0}

-- so has a call by name
abbrev pub CallIsTold : Option Builtin → Arguments → Type 0
CallIsTold None args = Unit {0}
CallIsTold (Some builtin) args = BuiltinIsTold builtin args

-- and a method
abbrev pub MethodIsTold : Option Operation → Arguments → Type 0
MethodIsTold None args = Unit {0}
MethodIsTold (Some operation) args = operation_takes_text operation ≡ true → has_text args ≡ true

abbrev mutual
  -- an expression's literals are of 64 bits, and its calls have their texts
  pub IsRunnable : Expression → Type 0
  IsRunnable (integer n) = n < 2 ^ 63
  IsRunnable true_literal = Unit {0}
  IsRunnable false_literal = Unit {0}
  IsRunnable (variable x) = Unit {0}
  IsRunnable (element x i) = IsRunnable i
  IsRunnable (group e) = IsRunnable e
  IsRunnable (unary op e) = IsRunnable e
  IsRunnable (binary op a b) = IsRunnable a × IsRunnable b
  IsRunnable (compare op a b) = IsRunnable a × IsRunnable b
  IsRunnable (negation e) = IsRunnable e
  IsRunnable (conjunction a b) = IsRunnable a × IsRunnable b
  IsRunnable (disjunction a b) = IsRunnable a × IsRunnable b
  IsRunnable (call f args) = CallIsTold (builtin_named f) args × AreRunnable args
  IsRunnable (method o m args) = MethodIsTold (method_named o m) args × AreRunnable args

  -- arguments
  pub AreRunnable : Arguments → Type 0
  AreRunnable no_more = Unit {0}
  AreRunnable (value_then e rest) = IsRunnable e × AreRunnable rest
  AreRunnable (text_then text rest) = AreRunnable rest
