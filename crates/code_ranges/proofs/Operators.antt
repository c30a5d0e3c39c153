-- The instructions of operators and calls are in their ranges, and few.
use Rattle.std.proofs.Common.{◌≡◌, ℕ, ◌+◌, ◌<◌, ◌≤◌, List, [], ◌∷◌, length, Option, Some, None, refl, ap, arith}
use Rattle.std.specs.Prelude.{Bool, true, false, cond, nat_lt, bytes_eq, is_some, unwrap_or, if◌then◌else◌}
use Rattle.std.specs.List.{position, position_or_len}
use Rattle.std.proofs.lemmas.Bool.{and_from, lt-ltb, ltb-true, false≢true}
use Rattle.kern_syntax.specs.declared.expression.BinaryOperator.{BinaryOperator}
use Rattle.kern_syntax.specs.declared.expression.BinaryOperator.TheVariants as B
use Rattle.kern_syntax.specs.declared.expression.Comparison.{Comparison}
use Rattle.kern_syntax.specs.declared.expression.Comparison.TheVariants as K
use Rattle.kern_syntax.specs.declared.expression.UnaryOperator.{UnaryOperator}
use Rattle.kern_syntax.specs.declared.expression.UnaryOperator.TheVariants as U
use Rattle.kern_syntax.specs.Tree.{Bytes, FunctionTree}
use Rattle.kern_calls.specs.declared.types.ValueType.{ValueType}
use Rattle.kern_calls.specs.declared.types.ValueType.TheVariants as V
use Rattle.kern_calls.specs.declared.calls.Builtin.{Builtin}
use Rattle.kern_calls.specs.declared.calls.Builtin.TheVariants as W
use Rattle.kern_calls.specs.Calls.{look_up}
use Rattle.kern_calls.specs.Types.{Names, bits_of}
use Rattle.core_isa.specs.declared.instr.Instr.TheVariants as I
use Rattle.core_image.specs.Ranges.{is_byte, is_short}
use Rattle.code_forms.specs.Setting.{Setting, size_of, slots_of_names, slot_in, slot_of, length_in, length_of, index_of_text, index_of_function}
use Rattle.code_forms.specs.Operations.{wrapping, operator_instrs, unary_instrs, comparison_instrs, load_instr, data_instr, length_instr, builtin_instrs, call_instrs}
use Rattle.code_ranges.specs.Fits.{SettingFits}
use Rattle.code_ranges.proofs.Straight.{InstrFits, InstrsFit}

pub wrapping_fits : (t : ValueType) → InstrsFit (wrapping t)
wrapping_fits V.Int32 = (refl, tt)
wrapping_fits V.Int64 = tt
wrapping_fits V.Bool = tt
wrapping_fits (V.Array n) = tt

wrapping_short : (t : ValueType) → length (wrapping t) ≤ 1
wrapping_short V.Int32 = omega arith
wrapping_short V.Int64 = omega arith
wrapping_short V.Bool = omega arith
wrapping_short (V.Array n) = omega arith

bits_fit : (t : ValueType) → is_byte (bits_of t) ≡ true
bits_fit V.Int32 = refl
bits_fit V.Int64 = refl
bits_fit V.Bool = refl
bits_fit (V.Array n) = refl

pub operator_fits : (op : BinaryOperator) (t : ValueType) → InstrsFit (operator_instrs op t)
operator_fits B.Add t = (refl, wrapping_fits t)
operator_fits B.Subtract t = (refl, wrapping_fits t)
operator_fits B.Multiply t = (refl, wrapping_fits t)
operator_fits B.Divide t = (refl, wrapping_fits t)
operator_fits B.Remainder t = (refl, wrapping_fits t)
operator_fits B.ShiftLeft t = (bits_fit t, wrapping_fits t)
operator_fits B.ShiftRight t = (bits_fit t, wrapping_fits t)
operator_fits B.BitAnd t = (refl, wrapping_fits t)
operator_fits B.BitXor t = (refl, wrapping_fits t)
operator_fits B.BitOr t = (refl, wrapping_fits t)

pub operator_short : (op : BinaryOperator) (t : ValueType) → length (operator_instrs op t) ≤ 2
operator_short B.Add t = omega (arith, wrapping_short t)
operator_short B.Subtract t = omega (arith, wrapping_short t)
operator_short B.Multiply t = omega (arith, wrapping_short t)
operator_short B.Divide t = omega (arith, wrapping_short t)
operator_short B.Remainder t = omega (arith, wrapping_short t)
operator_short B.ShiftLeft t = omega (arith, wrapping_short t)
operator_short B.ShiftRight t = omega (arith, wrapping_short t)
operator_short B.BitAnd t = omega (arith, wrapping_short t)
operator_short B.BitXor t = omega (arith, wrapping_short t)
operator_short B.BitOr t = omega (arith, wrapping_short t)

pub unary_fits : (op : UnaryOperator) (t : ValueType) → InstrsFit (unary_instrs op t)
unary_fits U.Negate t = (refl, wrapping_fits t)
unary_fits U.Invert t = (refl, wrapping_fits t)

pub unary_short : (op : UnaryOperator) (t : ValueType) → length (unary_instrs op t) ≤ 2
unary_short U.Negate t = omega (arith, wrapping_short t)
unary_short U.Invert t = omega (arith, wrapping_short t)

pub comparison_fits : (op : Comparison) → InstrsFit (comparison_instrs op)
comparison_fits K.Equal = (refl, tt)
comparison_fits K.NotEqual = (refl, tt)
comparison_fits K.Less = (refl, tt)
comparison_fits K.LessEqual = (refl, tt)
comparison_fits K.Greater = (refl, (refl, (refl, tt)))
comparison_fits K.GreaterEqual = (refl, (refl, (refl, tt)))

pub comparison_short : (op : Comparison) → length (comparison_instrs op) ≤ 3
comparison_short K.Equal = omega arith
comparison_short K.NotEqual = omega arith
comparison_short K.Less = omega arith
comparison_short K.LessEqual = omega arith
comparison_short K.Greater = omega arith
comparison_short K.GreaterEqual = omega arith

-- the slots of a name are among those of all names
slot_within : (ns : Names) (x : Bytes) → slot_in ns x ≤ slots_of_names ns
slot_within [] x = omega arith
slot_within (n ∷ ns) x = by_test (bytes_eq x n.0) (slot_within ns x)
  where
    by_test : (b : Bool) → slot_in ns x ≤ slots_of_names ns → (if b then 0 else size_of n.1 + slot_in ns x) ≤ size_of n.1 + slots_of_names ns
    by_test true e = omega arith
    by_test false e = omega (arith, e)

type_within : (t : ValueType) → length_in (Some t) ≤ size_of t
type_within V.Int32 = omega arith
type_within V.Int64 = omega arith
type_within V.Bool = omega arith
type_within (V.Array n) = omega arith

length_within : (ns : Names) (x : Bytes) → length_in (look_up ns x) ≤ slots_of_names ns
length_within [] x = omega arith
length_within (n ∷ ns) x = by_test (bytes_eq x n.0) (length_within ns x)
  where
    by_test : (b : Bool) → length_in (look_up ns x) ≤ slots_of_names ns → length_in (if b then Some n.1 else look_up ns x) ≤ size_of n.1 + slots_of_names ns
    by_test true e = omega (arith, type_within n.1)
    by_test false e = omega (arith, e)

pub array_within : (ns : Names) (x : Bytes) (n : ℕ) → look_up ns x ≡ Some (V.Array n) → slot_in ns x + n ≤ slots_of_names ns
array_within [] x n e = absurd (false≢true (ap is_some e))
array_within (m ∷ ns) x n e = by_test (bytes_eq x m.0) e (array_within ns x n)
  where
    sized : (t : ValueType) → Some t ≡ Some (V.Array n) → n ≤ size_of t
    sized t e' = let same : size_of t ≡ n = ap (λ o. size_of (unwrap_or o V.Bool)) e' in omega (arith, same)

    by_test : (b : Bool) → (if b then Some m.1 else look_up ns x) ≡ Some (V.Array n) → (look_up ns x ≡ Some (V.Array n) → slot_in ns x + n ≤ slots_of_names ns) → (if b then 0 else size_of m.1 + slot_in ns x) + n ≤ size_of m.1 + slots_of_names ns
    by_test true e' k = omega (arith, sized m.1 e')
    by_test false e' k = omega (arith, k e')

-- the place of what is looked for is in the list, and 0 where it isn't there
place_within : {A : Type 0} (p : A → Bool) (xs : List A) → unwrap_or (position p xs) 0 ≤ length xs
place_within p xs = by_test (nat_lt (position_or_len p xs) (length xs)) refl
  where
    by_test : (b : Bool) → nat_lt (position_or_len p xs) (length xs) ≡ b → unwrap_or (cond b (Some (position_or_len p xs)) None) 0 ≤ length xs
    by_test true e = let less = ltb-true (position_or_len p xs) (length xs) e in omega (arith, less)
    by_test false e = omega arith

module _ (setting : Setting) (fits : SettingFits setting) where
  pub slot_fits : (x : Bytes) → is_short (slot_of setting x) ≡ true
  slot_fits x = lt-ltb (slot_of setting x) 65536 (omega (arith, slot_within setting.scope.names x, fits.slots))

  length_below : (x : Bytes) → length_of setting x < 65536
  length_below x = omega (arith, length_within setting.scope.names x, fits.slots)

  pub array_fits : (x : Bytes) → (is_short (slot_of setting x) ≡ true) × (is_short (length_of setting x) ≡ true)
  array_fits x = (slot_fits x, lt-ltb (length_of setting x) 65536 (length_below x))

  -- an instruction that speaks of an array
  pub two_fit : (x : Bytes) → InstrFits (I.LoadAt (slot_of setting x) (length_of setting x))
  two_fit x = and_from (is_short (slot_of setting x)) (is_short (length_of setting x)) (array_fits x).0 (array_fits x).1

  pub text_fits : (text : Bytes) → is_short (index_of_text setting text) ≡ true
  text_fits text = lt-ltb (index_of_text setting text) 65536 (omega (arith, place_within (bytes_eq text) setting.texts, fits.texts))

  function_fits : (name : Bytes) → is_short (index_of_function setting name) ≡ true
  function_fits name =
      lt-ltb (index_of_function setting name) 65536 (omega (arith, place_within (λ (f : FunctionTree). bytes_eq name f.name) setting.scope.program, fits.functions))

  pub load_fits : (x : Bytes) (o : Option ValueType) → InstrFits (load_instr setting x o)
  load_fits x None = refl
  load_fits x (Some V.Int32) = slot_fits x
  load_fits x (Some V.Int64) = slot_fits x
  load_fits x (Some V.Bool) = slot_fits x
  load_fits x (Some (V.Array n)) = refl

  data_fits : (text : Bytes) (o : Option Bytes) → InstrFits (data_instr setting text o)
  data_fits text None = text_fits text
  data_fits text (Some x) = and_from (is_short (index_of_text setting text)) _ (text_fits text) (two_fit x)

  length_fits : (o : Option Bytes) → InstrFits (length_instr setting o)
  length_fits None = refl
  length_fits (Some x) = lt-ltb (length_of setting x) 9223372036854775808 (omega (arith, length_below x))

  builtin_fits : (text : Bytes) (o : Option Bytes) (b : Builtin) → InstrsFit (builtin_instrs setting text o b)
  builtin_fits text o W.NowMu = (refl, tt)
  builtin_fits text o W.AtMu = (refl, tt)
  builtin_fits text o W.DelayMu = (refl, tt)
  builtin_fits text o W.SetDataset = (data_fits text o, tt)
  builtin_fits text o W.Len = (length_fits o, tt)
  builtin_fits text o W.ToInt32 = (refl, tt)
  builtin_fits text o W.ToInt64 = tt

  builtin_short : (text : Bytes) (o : Option Bytes) (b : Builtin) → length (builtin_instrs setting text o b) ≤ 1
  builtin_short text o W.NowMu = omega arith
  builtin_short text o W.AtMu = omega arith
  builtin_short text o W.DelayMu = omega arith
  builtin_short text o W.SetDataset = omega arith
  builtin_short text o W.Len = omega arith
  builtin_short text o W.ToInt32 = omega arith
  builtin_short text o W.ToInt64 = omega arith

  pub call_fits : (name text : Bytes) (o : Option Bytes) (b : Option Builtin) → InstrsFit (call_instrs setting name text o b)
  call_fits name text o None = (function_fits name, tt)
  call_fits name text o (Some b) = builtin_fits text o b

  pub call_short : (name text : Bytes) (o : Option Bytes) (b : Option Builtin) → length (call_instrs setting name text o b) ≤ 1
  call_short name text o None = omega arith
  call_short name text o (Some b) = builtin_short text o b
