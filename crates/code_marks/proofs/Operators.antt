-- The instructions of operators and comparisons meet the conditions on marks.
use Rattle.std.proofs.Common.{◌≡◌, ℕ, ◌+◌, ◌≤◌, List, [], ◌∷◌, Option, Some, None, inl, inr, refl, arith}
use Rattle.std.specs.Prelude.{pos}
use Rattle.kern_syntax.specs.declared.expression.BinaryOperator.{BinaryOperator}
use Rattle.kern_syntax.specs.declared.expression.BinaryOperator.TheVariants as B
use Rattle.kern_syntax.specs.declared.expression.Comparison.{Comparison}
use Rattle.kern_syntax.specs.declared.expression.Comparison.TheVariants as C'
use Rattle.kern_syntax.specs.declared.expression.UnaryOperator.{UnaryOperator}
use Rattle.kern_syntax.specs.declared.expression.UnaryOperator.TheVariants as U
use Rattle.kern_syntax.specs.Tree.{Bytes}
use Rattle.kern_calls.specs.declared.types.ValueType.{ValueType}
use Rattle.kern_calls.specs.declared.types.ValueType.TheVariants as V
use Rattle.kern_calls.specs.Calls.{look_up}
use Rattle.kern_calls.specs.Types.{bits_of}
use Rattle.core_isa.specs.declared.code.Code.{Code}
use Rattle.core_isa.specs.declared.code.CodeFunction.{CodeFunction}
use Rattle.core_isa.specs.declared.code.Mark.{Mark}
use Rattle.core_isa.specs.declared.instr.Instr.TheVariants as I
use Rattle.core_isa.specs.Marks.{IsShiftWidth, after}
use Rattle.code_forms.specs.Setting as C
use Rattle.code_forms.specs.Operations.{wrapping, operator_instrs, unary_instrs, not_instrs, comparison_instrs, load_instr}
use Rattle.code_marks.proofs.Held.{Held, has_slot}
use Rattle.code_marks.proofs.Instructions.{simple}
use Rattle.code_marks.proofs.Parts.{Gives, same_mark}

shift_width : (t : ValueType) → IsShiftWidth (bits_of t)
shift_width V.Int32 = inl refl
shift_width V.Int64 = inr refl
shift_width V.Bool = inr refl
shift_width (V.Array n) = inr refl

module _ (code : Code) (k : ℕ) (f : CodeFunction) where
  -- a result that wraps
  wraps : (t : ValueType) (place : ℕ) (mark : Mark) → 1 ≤ mark.height → Gives code k f place mark (wrapping t) mark
  wraps V.Int32 place mark some = ((simple code k f I.Wrap32 refl tt some, tt), same_mark _ _ (omega (arith, some)) refl refl)
  wraps V.Int64 place mark some = (tt, refl)
  wraps V.Bool place mark some = (tt, refl)
  wraps (V.Array n) place mark some = (tt, refl)

  -- two operands become one
  pub operates : (op : BinaryOperator) (t : ValueType) (place : ℕ) (mark : Mark) → 2 ≤ mark.height → Gives code k f place mark (operator_instrs op t) (after mark 2 1)
  operates B.Add t place mark two = let r = wraps t (place + 1) (after mark 2 1) (omega arith) in ((simple code k f I.Add refl tt two, r.0), r.1)
  operates B.Subtract t place mark two = let r = wraps t (place + 1) (after mark 2 1) (omega arith) in ((simple code k f I.Sub refl tt two, r.0), r.1)
  operates B.Multiply t place mark two = let r = wraps t (place + 1) (after mark 2 1) (omega arith) in ((simple code k f I.Mul refl tt two, r.0), r.1)
  operates B.Divide t place mark two = let r = wraps t (place + 1) (after mark 2 1) (omega arith) in ((simple code k f I.Div refl tt two, r.0), r.1)
  operates B.Remainder t place mark two = let r = wraps t (place + 1) (after mark 2 1) (omega arith) in ((simple code k f I.Mod refl tt two, r.0), r.1)
  operates B.ShiftLeft t place mark two = let r = wraps t (place + 1) (after mark 2 1) (omega arith) in ((simple code k f (I.Shl (bits_of t)) refl (shift_width t) two, r.0), r.1)
  operates B.ShiftRight t place mark two = let r = wraps t (place + 1) (after mark 2 1) (omega arith) in ((simple code k f (I.Shr (bits_of t)) refl (shift_width t) two, r.0), r.1)
  operates B.BitAnd t place mark two = let r = wraps t (place + 1) (after mark 2 1) (omega arith) in ((simple code k f I.And refl tt two, r.0), r.1)
  operates B.BitXor t place mark two = let r = wraps t (place + 1) (after mark 2 1) (omega arith) in ((simple code k f I.Xor refl tt two, r.0), r.1)
  operates B.BitOr t place mark two = let r = wraps t (place + 1) (after mark 2 1) (omega arith) in ((simple code k f I.Or refl tt two, r.0), r.1)

  pub negates : (op : UnaryOperator) (t : ValueType) (place : ℕ) (mark : Mark) → 1 ≤ mark.height → Gives code k f place mark (unary_instrs op t) (after mark 1 1)
  negates U.Negate t place mark some = let r = wraps t (place + 1) (after mark 1 1) (omega arith) in ((simple code k f I.Neg refl tt some, r.0), r.1)
  negates U.Invert t place mark some = let r = wraps t (place + 1) (after mark 1 1) (omega arith) in ((simple code k f I.Inv refl tt some, r.0), r.1)

  pub turns_over : (place : ℕ) (mark : Mark) → 1 ≤ mark.height → Gives code k f place mark not_instrs mark
  turns_over place mark some =
      ((simple code k f (I.Const (pos 0)) refl tt (omega arith), (simple code k f I.Eq refl tt (omega (arith, some)), tt)), same_mark _ _ (omega (arith, some)) refl refl)

  pub compares : (op : Comparison) (place : ℕ) (mark : Mark) → 2 ≤ mark.height → Gives code k f place mark (comparison_instrs op) (after mark 2 1)
  compares C'.Equal place mark two = ((simple code k f I.Eq refl tt two, tt), refl)
  compares C'.NotEqual place mark two = ((simple code k f I.Ne refl tt two, tt), refl)
  compares C'.Less place mark two = ((simple code k f I.Lt refl tt two, tt), refl)
  compares C'.LessEqual place mark two = ((simple code k f I.Le refl tt two, tt), refl)
  compares C'.Greater place mark two = let r = turns_over (place + 1) (after mark 2 1) (omega arith) in ((simple code k f I.Le refl tt two, r.0), r.1)
  compares C'.GreaterEqual place mark two = let r = turns_over (place + 1) (after mark 2 1) (omega arith) in ((simple code k f I.Lt refl tt two, r.0), r.1)

  -- a name's value
  pub loads : (cs : C.Setting) (plain : List Bytes) → Held code f cs plain → (x : Bytes) (o : Option ValueType) → look_up cs.scope.names x ≡ o → (place : ℕ) (mark : Mark) → Gives code k f place mark (load_instr cs x o ∷ []) (after mark 0 1)
  loads cs plain held x None e place mark = ((simple code k f (I.Const (pos 0)) refl tt (omega arith), tt), refl)
  loads cs plain held x (Some (V.Array n)) e place mark = ((simple code k f (I.Const (pos 0)) refl tt (omega arith), tt), refl)
  loads cs plain held x (Some V.Int32) e place mark = ((simple code k f (I.Load (C.slot_of cs x)) refl (has_slot code f cs plain held x V.Int32 e (omega arith)) (omega arith), tt), refl)
  loads cs plain held x (Some V.Int64) e place mark = ((simple code k f (I.Load (C.slot_of cs x)) refl (has_slot code f cs plain held x V.Int64 e (omega arith)) (omega arith), tt), refl)
  loads cs plain held x (Some V.Bool) e place mark = ((simple code k f (I.Load (C.slot_of cs x)) refl (has_slot code f cs plain held x V.Bool e (omega arith)) (omega arith), tt), refl)
