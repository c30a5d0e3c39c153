-- The instructions of operators and calls, once their operands are there.
use Rattle.std.specs.Prelude.{ℕ, ◌+◌, List, [], ◌∷◌, pos, Bool, true, false, Option, Some, None, is_some}
use Rattle.limits.specs.Limits.{lead_time}
use Rattle.kern_syntax.specs.declared.expression.BinaryOperator.{BinaryOperator}
use Rattle.kern_syntax.specs.declared.expression.BinaryOperator.TheVariants as B
use Rattle.kern_syntax.specs.declared.expression.Comparison.{Comparison}
use Rattle.kern_syntax.specs.declared.expression.Comparison.TheVariants as C
use Rattle.kern_syntax.specs.declared.expression.UnaryOperator.{UnaryOperator}
use Rattle.kern_syntax.specs.declared.expression.UnaryOperator.TheVariants as U
use Rattle.kern_syntax.specs.Tree.{Bytes, Expression, integer, Arguments, no_more, value_then, text_then}
use Rattle.kern_calls.specs.declared.types.ValueType.{ValueType}
use Rattle.kern_calls.specs.declared.types.ValueType.TheVariants as V
use Rattle.kern_calls.specs.declared.calls.Builtin.{Builtin}
use Rattle.kern_calls.specs.declared.calls.Builtin.TheVariants.{NowMu, AtMu, DelayMu, SetDataset, Len, ToInt32, ToInt64}
use Rattle.kern_calls.specs.declared.calls.Operation.{Operation}
use Rattle.kern_calls.specs.declared.calls.Operation.TheVariants.{On, Off, Pulse, Write, GateRising}
use Rattle.kern_calls.specs.declared.calls.Operation.TheVariants.{GateFalling, GateBoth, Timestamp, Count}
use Rattle.kern_calls.specs.declared.calls.Operation.TheVariants.{Counter, BreakRealtime, Reset, WaitUntil}
use Rattle.kern_calls.specs.declared.calls.Operation.TheVariants.{Playback, PlaybackHandle, GetHandle, Erase}
use Rattle.kern_calls.specs.Calls.{builtin_result, operation_result}
use Rattle.kern_calls.specs.Types.{bits_of}
use Rattle.timeline_sem.specs.Expressions.{array_in}
use Rattle.core_isa.specs.declared.instr.Instr.{Instr}
use Rattle.core_isa.specs.declared.instr.Instr.TheVariants as I
use Rattle.code_forms.specs.Setting.{Setting, slot_of, length_of, index_of_text, index_of_function, has_value}

-- a result wraps at the width of its type; every instruction wraps at 64 bits
abbrev pub wrapping : ValueType → List Instr
wrapping V.Int32 = I.Wrap32 ∷ []
wrapping t = []

-- the instruction of an operator
abbrev pub operator_instr : BinaryOperator → ValueType → Instr
operator_instr B.Add t = I.Add
operator_instr B.Subtract t = I.Sub
operator_instr B.Multiply t = I.Mul
operator_instr B.Divide t = I.Div
operator_instr B.Remainder t = I.Mod
operator_instr B.ShiftLeft t = I.Shl (bits_of t)
operator_instr B.ShiftRight t = I.Shr (bits_of t)
operator_instr B.BitAnd t = I.And
operator_instr B.BitXor t = I.Xor
operator_instr B.BitOr t = I.Or

-- an operator at a type: `a b → x`
abbrev pub operator_instrs : BinaryOperator → ValueType → List Instr
operator_instrs op t = operator_instr op t ∷ wrapping t

-- `-` and `~` at a type: `a → x`
abbrev pub unary_instrs : UnaryOperator → ValueType → List Instr
unary_instrs U.Negate t = I.Neg ∷ wrapping t
unary_instrs U.Invert t = I.Inv ∷ wrapping t

-- the number of an expression that is an integer
abbrev pub literal : Expression → Option ℕ
literal (integer n) = Some n
literal e = None

-- the type at which a result is wrapped that is at least 0:
-- where an integer of the text bounds it, nothing is left to do
abbrev pub bounded_type : (literal : Option ℕ) → ValueType → ValueType
bounded_type (Some n) t = V.Int64
bounded_type None t = t

-- the type at which an operator's result is wrapped, by the numbers of those operands that are integers: a remainder
-- isn't greater than the right one, nor are the bits that two numbers have in common than either
abbrev pub wrapped_type : BinaryOperator → (left right : Option ℕ) → ValueType → ValueType
wrapped_type B.Add left right t = t
wrapped_type B.Subtract left right t = t
wrapped_type B.Multiply left right t = t
wrapped_type B.Divide left right t = t
wrapped_type B.Remainder left right t = bounded_type right t
wrapped_type B.ShiftLeft left right t = t
wrapped_type B.ShiftRight left right t = t
wrapped_type B.BitAnd left right t = bounded_type left (bounded_type right t)
wrapped_type B.BitXor left right t = t
wrapped_type B.BitOr left right t = t

-- the number below 0 that `-` of an integer is: it has the integer's width, so nothing is left to do
abbrev pub negated : UnaryOperator → (literal : Option ℕ) → Option ℕ
negated U.Negate literal = literal
negated U.Invert literal = None

-- whether the operand is 0: `a → 1` or `0`
abbrev pub not_instrs : List Instr
not_instrs = I.Const (pos 0) ∷ I.Eq ∷ []

-- a comparison: `a b → 1` or `0`
abbrev pub comparison_instrs : Comparison → List Instr
comparison_instrs C.Equal = I.Eq ∷ []
comparison_instrs C.NotEqual = I.Ne ∷ []
comparison_instrs C.Less = I.Lt ∷ []
comparison_instrs C.LessEqual = I.Le ∷ []
comparison_instrs C.Greater = I.Le ∷ not_instrs
comparison_instrs C.GreaterEqual = I.Lt ∷ not_instrs

-- the value of a name by its type: `→ x`; 0 for what isn't a number
abbrev pub load_instr : Setting → Bytes → Option ValueType → Instr
load_instr setting x None = I.Const (pos 0)
load_instr setting x (Some (V.Array n)) = I.Const (pos 0)
load_instr setting x (Some t) = I.Load (slot_of setting x)

-- the lead that the cursor gets over a reading
abbrev pub lead : Instr
lead = I.Const (pos lead_time)

-- an output of a number at an address
abbrev pub out_instrs : (channel address number : ℕ) → List Instr
out_instrs c address number = I.Const (pos number) ∷ I.Out c address ∷ []

-- a pulse: `d →`
abbrev pub pulse_instrs : (channel : ℕ) → List Instr
pulse_instrs c = I.Const (pos 1) ∷ I.Out c 0 ∷ I.Delay ∷ I.Const (pos 0) ∷ I.Out c 0 ∷ []

-- an input's gate: `d → t`
abbrev pub gate_instrs : (channel sensitivity : ℕ) → List Instr
gate_instrs c sensitivity =
    I.Const (pos sensitivity) ∷ I.Out c 2 ∷ I.Delay ∷ I.Const (pos 0) ∷ I.Out c 2 ∷ I.Now ∷ []

-- a call's argument that is an array, if there is one
abbrev pub array_argument : Setting → Arguments → Option Bytes
array_argument setting no_more = None
array_argument setting (text_then text rest) = array_argument setting rest
array_argument setting (value_then e rest) = array_in setting.scope e

-- a dataset is set: to the numbers of an array, or `v →`
abbrev pub data_instr : Setting → (text : Bytes) → Option Bytes → Instr
data_instr setting text None = I.DataInt (index_of_text setting text)
data_instr setting text (Some x) = I.DataList (index_of_text setting text) (slot_of setting x) (length_of setting x)

-- the length of an array: `→ n`
abbrev pub length_instr : Setting → Option Bytes → Instr
length_instr setting None = I.Const (pos 0)
length_instr setting (Some x) = I.Const (pos (length_of setting x))

-- a function of the language: its numbers `→` its value, if it has one
abbrev pub builtin_instrs : Setting → (text : Bytes) → (array : Option Bytes) → Builtin → List Instr
builtin_instrs setting text array NowMu = I.Now ∷ []
builtin_instrs setting text array AtMu = I.At ∷ []
builtin_instrs setting text array DelayMu = I.Delay ∷ []
builtin_instrs setting text array SetDataset = data_instr setting text array ∷ []
builtin_instrs setting text array Len = length_instr setting array ∷ []
builtin_instrs setting text array ToInt32 = I.Wrap32 ∷ []
builtin_instrs setting text array ToInt64 = []

-- a call by name: its numbers `→` its value, if it has one
abbrev pub call_instrs : Setting → (name text : Bytes) → (array : Option Bytes) → Option Builtin → List Instr
call_instrs setting name text array (Some builtin) = builtin_instrs setting text array builtin
call_instrs setting name text array None = I.Call (index_of_function setting name) ∷ []

-- a call by name has a value
abbrev pub call_has_value : Setting → (name : Bytes) → Option Builtin → Bool
call_has_value setting name (Some builtin) = is_some (builtin_result builtin)
call_has_value setting name None = has_value setting name

-- the numbers of a call are evaluated; an array is none
abbrev pub takes_numbers : (array : Option Bytes) → Option Builtin → Bool
takes_numbers (Some x) (Some SetDataset) = false
takes_numbers array (Some Len) = false
takes_numbers array builtin = true

-- a method: its numbers `→` its value, if it has one. The code of `count` keeps its bound in a free slot and the number
-- of edges on the operands; it has jumps, and therefore a place
abbrev pub count_instrs : (channel free place : ℕ) → List Instr
count_instrs c free place =
    I.Store free
    ∷ I.Const (pos 0)
    ∷ I.Load free
    ∷ I.Edge c
    ∷ I.Const (pos 0)
    ∷ I.Lt
    ∷ I.JumpZero (place + 8)
    ∷ I.Jump (place + 13)
    ∷ I.Const (pos 1)
    ∷ I.Add
    ∷ I.Wrap32
    ∷ I.Load free
    ∷ I.Jump (place + 3)
    ∷ []

-- what a method does at a place
abbrev pub operation_instrs : Setting → (free place : ℕ) → (text : Bytes) → Operation → List Instr
operation_instrs setting free place text (On c) = out_instrs c 0 1
operation_instrs setting free place text (Off c) = out_instrs c 0 0
operation_instrs setting free place text (Pulse c) = pulse_instrs c
operation_instrs setting free place text (Write c) = I.OutTo c ∷ []
operation_instrs setting free place text (GateRising c) = gate_instrs c 1
operation_instrs setting free place text (GateFalling c) = gate_instrs c 2
operation_instrs setting free place text (GateBoth c) = gate_instrs c 3
operation_instrs setting free place text (Timestamp c) = I.Edge c ∷ []
operation_instrs setting free place text (Count c) = count_instrs c free place
operation_instrs setting free place text Counter = I.Counter ∷ []
operation_instrs setting free place text BreakRealtime =
    I.Now ∷ I.Counter ∷ lead ∷ I.Add ∷ I.Max ∷ I.At ∷ []
operation_instrs setting free place text Reset = I.Reset ∷ lead ∷ I.Add ∷ I.At ∷ []
operation_instrs setting free place text WaitUntil = I.Wait ∷ []
operation_instrs setting free place text Playback = I.Play (index_of_text setting text) ∷ []
operation_instrs setting free place text PlaybackHandle = I.PlayHandle ∷ []
operation_instrs setting free place text GetHandle = I.Handle (index_of_text setting text) ∷ []
operation_instrs setting free place text Erase = I.Erase (index_of_text setting text) ∷ []

-- what a method does, if there is one
abbrev pub method_instrs : Setting → (free place : ℕ) → (text : Bytes) → Option Operation → List Instr
method_instrs setting free place text None = []
method_instrs setting free place text (Some op) = operation_instrs setting free place text op

-- a method has a value
abbrev pub method_has_value : Option Operation → Bool
method_has_value None = false
method_has_value (Some op) = is_some (operation_result op)
