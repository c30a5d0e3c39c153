-- Expressions in the grammar have few operands: at most 245, above those before them.
use Rattle.std.proofs.Common.{◌≡◌, ℕ, zero, suc, ◌+◌, ◌-◌, ◌*◌, ◌≤◌, ◌⊎◌, inl, inr, List, length, max, Option, Some, None, refl, sym, ap, ◌∙◌, arith}
use Rattle.std.specs.Prelude.{Bool, true, false, is_some}
use Rattle.std.proofs.lemmas.Bool.{false≢true}
use Rattle.kern_syntax.specs.declared.expression.BinaryOperator.{BinaryOperator}
use Rattle.kern_syntax.specs.declared.expression.BinaryOperator.TheVariants as B
use Rattle.kern_syntax.specs.Grammatical.{PartsFit, ArgumentsFit}
use Rattle.kern_syntax.specs.Levels.{binary_level, level_of}
use Rattle.kern_syntax.specs.Tree.{Bytes, Expression, integer, true_literal, false_literal, variable, element, group, unary, binary, compare, negation, conjunction, disjunction, call, method, Arguments, no_more, value_then, text_then, FunctionTree}
use Rattle.kern_calls.specs.declared.calls.Builtin.{Builtin}
use Rattle.kern_calls.specs.declared.calls.Builtin.TheVariants as W
use Rattle.kern_calls.specs.declared.calls.Operation.{Operation}
use Rattle.kern_calls.specs.declared.calls.Operation.TheVariants as P
use Rattle.kern_calls.specs.Calls.{builtin_named, method_named}
use Rattle.kern_calls.specs.Types.{function_named}
use Rattle.timeline_sem.specs.Expressions.{array_in}
use Rattle.code_forms.specs.ExpressionCode.{numbers_in}
use Rattle.code_forms.specs.Operations.{takes_numbers, array_argument}
use Rattle.code_forms.specs.Setting.{Setting}
use Rattle.code_forms.specs.Suited.{IsSuited, AreSuited, IsSuitedAlone, IsAnArray, HasWhatItTakes, MethodHasWhatItTakes, builtin_numbers, operation_numbers}
use Rattle.code_ranges.specs.Heights.{expression_height, arguments_height}

-- how many operands wait for the right operand of an operator of a level, and of those that bind closer
abbrev waiting : ℕ → ℕ
waiting level = (level - 1) - (level - 8)

-- a bound that goes by the room for nesting and the level
abbrev IsLow : (room : ℕ) → Expression → Type 0
IsLow room e = expression_height e ≤ 14 * room + 14 + waiting (level_of e)

levels_low : (e : Expression) → level_of e ≤ 11
levels_low (integer n) = omega arith
levels_low true_literal = omega arith
levels_low false_literal = omega arith
levels_low (variable x) = omega arith
levels_low (element x i) = omega arith
levels_low (group e) = omega arith
levels_low (unary op e) = omega arith
levels_low (binary op a b) = operator_low op
  where
    operator_low : (op : BinaryOperator) → binary_level op ≤ 11
    operator_low B.Multiply = omega arith
    operator_low B.Divide = omega arith
    operator_low B.Remainder = omega arith
    operator_low B.Add = omega arith
    operator_low B.Subtract = omega arith
    operator_low B.ShiftLeft = omega arith
    operator_low B.ShiftRight = omega arith
    operator_low B.BitAnd = omega arith
    operator_low B.BitXor = omega arith
    operator_low B.BitOr = omega arith
levels_low (compare op a b) = omega arith
levels_low (negation e) = omega arith
levels_low (conjunction a b) = omega arith
levels_low (disjunction a b) = omega arith
levels_low (call f args) = omega arith
levels_low (method o m args) = omega arith

operator_level : (op : BinaryOperator) → (2 ≤ binary_level op) × (binary_level op ≤ 7)
operator_level B.Multiply = (omega arith, omega arith)
operator_level B.Divide = (omega arith, omega arith)
operator_level B.Remainder = (omega arith, omega arith)
operator_level B.Add = (omega arith, omega arith)
operator_level B.Subtract = (omega arith, omega arith)
operator_level B.ShiftLeft = (omega arith, omega arith)
operator_level B.ShiftRight = (omega arith, omega arith)
operator_level B.BitAnd = (omega arith, omega arith)
operator_level B.BitXor = (omega arith, omega arith)
operator_level B.BitOr = (omega arith, omega arith)

-- whatever its level
low_any : (room : ℕ) (e : Expression) → IsLow room e → expression_height e ≤ 14 * room + 21
low_any room e low = omega (arith, low, levels_low e)

-- two operands, by numbers: heights, levels, the room and the level of the operator
pair_low : (a b la lb room level : ℕ) → a ≤ 14 * room + 14 + waiting la → b ≤ 14 * room + 14 + waiting lb → la ≤ level → lb ≤ level - 1 → 2 ≤ level → level ≤ 8 → max a (max (1 + b) 14) ≤ 14 * room + 14 + waiting level
pair_low a b la lb room level x y p q two eight = omega (arith, x, y, p, q, two, eight)

-- arguments, where the expressions among them have a bound
no_numbers : (args : Arguments) → ArgumentsFit 0 args → numbers_in args ≡ 0
no_numbers no_more g = refl
no_numbers (value_then e rest) g = absurd g.0
no_numbers (text_then text rest) g = no_numbers rest g

no_height : (args : Arguments) → numbers_in args ≡ 0 → arguments_height args ≡ 0
no_height no_more e = refl
no_height (value_then x rest) e = absurd (omega (arith, e))
no_height (text_then text rest) e = no_height rest e

room_for : (room : ℕ) (args : Arguments) → ArgumentsFit room args → numbers_in args ≤ 8 → numbers_in args + 14 ≤ 14 * room + 14
room_for zero args g few = omega (arith, no_numbers args g)
room_for (suc room) args g few = omega (arith, few)

-- an expression that is an array is a name
array_low : (cs : Setting) (e : Expression) (x : Bytes) → array_in cs.scope e ≡ Some x → expression_height e ≡ 14
array_low cs (integer n) x e = absurd (false≢true (ap is_some e))
array_low cs true_literal x e = absurd (false≢true (ap is_some e))
array_low cs false_literal x e = absurd (false≢true (ap is_some e))
array_low cs (variable y) x e = refl
array_low cs (element y i) x e = absurd (false≢true (ap is_some e))
array_low cs (group g) x e = array_low cs g x e
array_low cs (unary op a) x e = absurd (false≢true (ap is_some e))
array_low cs (binary op a b) x e = absurd (false≢true (ap is_some e))
array_low cs (compare op a b) x e = absurd (false≢true (ap is_some e))
array_low cs (negation a) x e = absurd (false≢true (ap is_some e))
array_low cs (conjunction a b) x e = absurd (false≢true (ap is_some e))
array_low cs (disjunction a b) x e = absurd (false≢true (ap is_some e))
array_low cs (call f args) x e = absurd (false≢true (ap is_some e))
array_low cs (method o m args) x e = absurd (false≢true (ap is_some e))

array_alone : (cs : Setting) (args : Arguments) (x : Bytes) → array_argument cs args ≡ Some x → numbers_in args ≤ 1 → arguments_height args ≤ 14
array_alone cs no_more x e one = omega arith
array_alone cs (value_then a rest) x e one =
    let none : numbers_in rest ≡ 0 = omega (arith, one) in
    omega (arith, array_low cs a x e, no_height rest none)
array_alone cs (text_then text rest) x e one = array_alone cs rest x e one

is_array : (cs : Setting) (o : Option Bytes) → IsAnArray cs o → (x : Bytes) × (o ≡ Some x)
is_array cs None h = absurd h
is_array cs (Some x) h = (x, refl)

builtin_few : (b : Builtin) → builtin_numbers b ≤ 1
builtin_few W.NowMu = omega arith
builtin_few W.AtMu = omega arith
builtin_few W.DelayMu = omega arith
builtin_few W.SetDataset = omega arith
builtin_few W.Len = omega arith
builtin_few W.ToInt32 = omega arith
builtin_few W.ToInt64 = omega arith

operation_few : (op : Operation) → operation_numbers op ≤ 2
operation_few (P.On c) = omega arith
operation_few (P.Off c) = omega arith
operation_few (P.Pulse c) = omega arith
operation_few (P.Write c) = omega arith
operation_few (P.GateRising c) = omega arith
operation_few (P.GateFalling c) = omega arith
operation_few (P.GateBoth c) = omega arith
operation_few (P.Timestamp c) = omega arith
operation_few (P.Count c) = omega arith
operation_few P.Counter = omega arith
operation_few P.BreakRealtime = omega arith
operation_few P.Reset = omega arith
operation_few P.WaitUntil = omega arith
operation_few P.Playback = omega arith
operation_few P.PlaybackHandle = omega arith
operation_few P.GetHandle = omega arith
operation_few P.Erase = omega arith

-- what a call's own height is, by numbers
call_bound : (h n room : ℕ) → h ≤ n + (14 * room + 6) → n ≤ 8 → n + 14 ≤ 14 * room + 14 → max h (n + 14) ≤ 14 * room + 14 + 0
call_bound h n room less few one = omega (arith, less, few, one)

small_bound : (h n room : ℕ) → h ≤ 14 → n + 14 ≤ 14 * room + 14 → max h (n + 14) ≤ 14 * room + 14 + 0
small_bound h n room less one = omega (arith, less, one)

module _ (cs : Setting) (plain : List Bytes) (parameters : (name : Bytes) (f : FunctionTree) → function_named cs.scope.program name ≡ Some f → length f.parameters ≤ 8) where
  few_numbers : (d : Bool) (f : Bytes) (args : Arguments) (b : Option Builtin) → HasWhatItTakes cs plain d f args (array_argument cs args) b → numbers_in args ≤ 8
  few_numbers d f args None h = omega (arith, parameters f h.0 h.1, h.2)
  few_numbers d f args (Some b) h = omega (arith, builtin_few b, h.0)

  -- a call's arguments are evaluated, or one of them is an array and none is a number beside it
  evaluated_or_not : (d : Bool) (f : Bytes) (args : Arguments) (b : Option Builtin) → HasWhatItTakes cs plain d f args (array_argument cs args) b → (t : Bool) → takes_numbers (array_argument cs args) b ≡ t → (t ≡ true) ⊎ (arguments_height args ≤ 14)
  evaluated_or_not d f args b h true e = inl refl
  evaluated_or_not d f args None h false e = absurd (false≢true (sym e ∙ always (array_argument cs args)))
    where
      always : (o : Option Bytes) → takes_numbers o None ≡ true
      always None = refl
      always (Some x) = refl
  evaluated_or_not d f args (Some b) h false e =
      let a = is_array cs (array_argument cs args) (h.2 e) in
      inr (array_alone cs args a.0 a.1 (omega (arith, h.0, builtin_few b)))

  call_low : (d : Bool) (room : ℕ) (f : Bytes) (args : Arguments) → ArgumentsFit room args → HasWhatItTakes cs plain d f args (array_argument cs args) (builtin_named f) → (takes_numbers (array_argument cs args) (builtin_named f) ≡ true → arguments_height args ≤ numbers_in args + (14 * room + 6)) → max (arguments_height args) (numbers_in args + 14) ≤ 14 * room + 14 + 0
  call_low d room f args g h less =
      let few = few_numbers d f args (builtin_named f) h in
      let one = room_for room args g few in
      elim (evaluated_or_not d f args (builtin_named f) h (takes_numbers (array_argument cs args) (builtin_named f)) refl) [
        | inl e ↦ call_bound (arguments_height args) (numbers_in args) room (less e) few one
        | inr small ↦ small_bound (arguments_height args) (numbers_in args) room small one
      ]

  method_few : (args : Arguments) (op : Option Operation) → MethodHasWhatItTakes args op → numbers_in args ≤ 8
  method_few args None h = absurd h
  method_few args (Some op) h = omega (arith, h.0, operation_few op)

  mutual
    low : (d : Bool) (room : ℕ) (e : Expression) → PartsFit room e → IsSuited cs plain d e → IsLow room e
    low d room (integer n) g r = omega arith
    low d room true_literal g r = omega arith
    low d room false_literal g r = omega arith
    low d room (variable x) g r = omega arith
    low d (suc room) (element x i) g r = omega (arith, low_any room i (low d room i g r.2))
    low d zero (element x i) g r = absurd g
    low d (suc room) (group e) g r = omega (arith, low_any room e (low d room e g r))
    low d zero (group e) g r = absurd g
    low d (suc room) (unary op e) g r = omega (arith, low_any room e (low d room e g.1 r))
    low d zero (unary op e) g r = absurd g
    low d room (binary op a b) g r =
        let level = operator_level op in
        pair_low (expression_height a) (expression_height b) (level_of a) (level_of b) room (binary_level op) (low d room a g.0.1 r.0) (low d room b g.1.1 r.1) g.0.0 g.1.0 level.0 (omega (arith, level.1))
    low d room (compare op a b) g r =
        pair_low (expression_height a) (expression_height b) (level_of a) (level_of b) room 8 (low d room a g.0.1 r.0) (low d room b g.1.1 r.1) (omega (arith, g.0.0)) g.1.0 (omega arith) (omega arith)
    low d (suc room) (negation e) g r = omega (arith, low_any room e (low d room e g.1 r))
    low d zero (negation e) g r = absurd g
    low d room (conjunction a b) g r = omega (arith, low_any room a (low d room a g.0.1 r.0), low_any room b (low d room b g.1.1 r.1))
    low d room (disjunction a b) g r = omega (arith, low_any room a (low d room a g.0.1 r.0), low_any room b (low d room b g.1.1 r.1))
    low d room (call f args) g r = call_low d room f args g r.1 (λ e. arguments_low d room args g (r.2 e))
    low d room (method o m args) g r =
        let few = method_few args (method_named o m) r.1 in
        call_bound (arguments_height args) (numbers_in args) room (arguments_low d room args g r.2) few (room_for room args g few)

    arguments_low : (d : Bool) (room : ℕ) (args : Arguments) → ArgumentsFit room args → AreSuited cs plain d args → arguments_height args ≤ numbers_in args + (14 * room + 6)
    arguments_low d room no_more g r = omega arith
    arguments_low d (suc room) (value_then e rest) g r = omega (arith, low_any room e (low d room e g.0 r.0), arguments_low d (suc room) rest g.1 r.1)
    arguments_low d zero (value_then e rest) g r = absurd g.0
    arguments_low d room (text_then text rest) g r = arguments_low d room rest g r

  -- at any nesting
  pub expression_low : (d : Bool) (room : ℕ) (e : Expression) → PartsFit room e → IsSuited cs plain d e → room ≤ 16 → expression_height e ≤ 245
  expression_low d room e g r most = omega (arith, most, low_any room e (low d room e g r))

  -- an expression that stands alone
  alone_low_from : (d : Bool) (room : ℕ) (e : Expression) → PartsFit room e → IsSuitedAlone cs plain d e → expression_height e ≤ 14 * room + 21
  alone_low_from d (suc room) (group e) g r = omega (arith, alone_low_from d room e g r)
  alone_low_from d zero (group e) g r = absurd g
  alone_low_from d room (call f args) g r = omega (arith, call_low d room f args g r.0 (λ e. arguments_low d room args g (r.1 e)))
  alone_low_from d room (method o m args) g r =
      let few = method_few args (method_named o m) r.0 in
      omega (arith, call_bound (arguments_height args) (numbers_in args) room (arguments_low d room args g r.1) few (room_for room args g few))
  alone_low_from d room (integer n) g r = omega arith
  alone_low_from d room true_literal g r = omega arith
  alone_low_from d room false_literal g r = omega arith
  alone_low_from d room (variable x) g r = omega arith
  alone_low_from d room (element x i) g r = low_any room (element x i) (low d room (element x i) g r)
  alone_low_from d room (unary op e) g r = low_any room (unary op e) (low d room (unary op e) g r)
  alone_low_from d room (binary op a b) g r = low_any room (binary op a b) (low d room (binary op a b) g r)
  alone_low_from d room (compare op a b) g r = low_any room (compare op a b) (low d room (compare op a b) g r)
  alone_low_from d room (negation e) g r = low_any room (negation e) (low d room (negation e) g r)
  alone_low_from d room (conjunction a b) g r = low_any room (conjunction a b) (low d room (conjunction a b) g r)
  alone_low_from d room (disjunction a b) g r = low_any room (disjunction a b) (low d room (disjunction a b) g r)

  pub alone_low : (d : Bool) (e : Expression) → PartsFit 16 e → IsSuitedAlone cs plain d e → expression_height e ≤ 245
  alone_low d e g r = omega (arith, alone_low_from d 16 e g r)
