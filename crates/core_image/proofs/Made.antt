-- Numbers in their ranges are those of some code.
use Rattle.std.proofs.Common.{◌≡◌, ℕ, ◌+◌, ◌≤◌, eqb, inl, inr, List, [], ◌∷◌, map, refl, subst, arith}
use Rattle.std.specs.Prelude.{ℤ}
use Rattle.std.specs.List.{AllByRecursion}
use Rattle.std.proofs.lemmas.Bool.{eqb-true, eqb-false, cases_Bool}
use Rattle.core_isa.specs.declared.code.Code.{Code}
use Rattle.core_isa.specs.declared.code.CodeLine.{CodeLine}
use Rattle.core_isa.specs.declared.instr.Instr.{Instr}
use Rattle.core_isa.specs.declared.instr.Instr.TheVariants as I
use Rattle.core_image.specs.Operands.{Operands, nothing, integer, one_byte, two_bytes, short, two_shorts, three_shorts, place, op_of, operands_of, shape_of}
use Rattle.core_image.specs.Parts.{LineParts, ImageParts, parts_of, parts_of_line}
use Rattle.core_image.specs.declared.operands.Shape.TheVariants as S
use Rattle.core_image.proofs.ExactCode.{FitsOperands, FitsLine, FitsImage}

-- an instruction of this number with these operands
record Made (op : ℕ) (operands : Operands) : Type 0 where
  instr : Instr
  has_op : op_of instr ≡ op
  has_operands : operands_of instr ≡ operands

made : (i : Instr) → Made (op_of i) (operands_of i)
made i = record { instr = i; has_op = refl; has_operands = refl }

of_integer : {op : ℕ} → ((v : ℤ) → Made op (integer v)) → (o : Operands) → FitsOperands S.Integer o → Made op o
of_integer make (integer v) h = make v
of_integer make o h = absurd h

of_byte : {op : ℕ} → ((n : ℕ) → Made op (one_byte n)) → (o : Operands) → FitsOperands S.Byte o → Made op o
of_byte make (one_byte n) h = make n
of_byte make o h = absurd h

of_two_bytes : {op : ℕ} → ((m n : ℕ) → Made op (two_bytes m n)) → (o : Operands) → FitsOperands S.TwoBytes o → Made op o
of_two_bytes make (two_bytes m n) h = make m n
of_two_bytes make o h = absurd h

of_short : {op : ℕ} → ((n : ℕ) → Made op (short n)) → (o : Operands) → FitsOperands S.Short o → Made op o
of_short make (short n) h = make n
of_short make o h = absurd h

of_two_shorts : {op : ℕ} → ((m n : ℕ) → Made op (two_shorts m n)) → (o : Operands) → FitsOperands S.TwoShorts o → Made op o
of_two_shorts make (two_shorts m n) h = make m n
of_two_shorts make o h = absurd h

of_three_shorts : {op : ℕ} → ((m n k : ℕ) → Made op (three_shorts m n k)) → (o : Operands) → FitsOperands S.ThreeShorts o → Made op o
of_three_shorts make (three_shorts m n k) h = make m n k
of_three_shorts make o h = absurd h

of_place : {op : ℕ} → ((p : ℕ) → Made op (place p)) → (o : Operands) → FitsOperands S.Place o → Made op o
of_place make (place p) h = make p
of_place make o h = absurd h

of_nothing : {op : ℕ} → Made op nothing → (o : Operands) → FitsOperands S.Nothing o → Made op o
of_nothing make nothing h = make
of_nothing make o h = absurd h

-- there is one for each number from this on
abbrev IsMade : ℕ → Type 0
IsMade op = (o : Operands) → FitsOperands (shape_of op) o → Made op o

record MadeFrom (least : ℕ) : Type 0 where
  each : (op : ℕ) → least ≤ op → op ≤ 50 → IsMade op

infixr 5 ◌or◌
◌or◌ : {least : ℕ} → IsMade least → MadeFrom (least + 1) → MadeFrom least
◌or◌ {least = least} first others = record {
  each = λ op le most. elim (cases_Bool (eqb least op)) [
    | inl same ↦ subst IsMade (eqb-true least op same) first
    | inr other ↦ let not_it = eqb-false least op other in others.each op (omega (arith, not_it)) most
  ];
}

no_more : MadeFrom 51
no_more = record { each = λ op le most. absurd (omega arith) }

all_made : MadeFrom 0
all_made =
    of_integer (λ v. made (I.Const v)) or
    of_short (λ n. made (I.Load n)) or
    of_short (λ n. made (I.Store n)) or
    of_two_shorts (λ m n. made (I.LoadAt m n)) or
    of_two_shorts (λ m n. made (I.StoreAt m n)) or
    of_nothing (made I.Add) or
    of_nothing (made I.Sub) or
    of_nothing (made I.Mul) or
    of_nothing (made I.Div) or
    of_nothing (made I.Mod) or
    of_nothing (made I.And) or
    of_nothing (made I.Or) or
    of_nothing (made I.Xor) or
    of_byte (λ n. made (I.Shl n)) or
    of_byte (λ n. made (I.Shr n)) or
    of_nothing (made I.Neg) or
    of_nothing (made I.Inv) or
    of_nothing (made I.Wrap32) or
    of_nothing (made I.Eq) or
    of_nothing (made I.Ne) or
    of_nothing (made I.Lt) or
    of_nothing (made I.Le) or
    of_nothing (made I.Max) or
    of_nothing (made I.Pop) or
    of_nothing (made I.Dup) or
    of_place (λ p. made (I.Jump p)) or
    of_place (λ p. made (I.JumpZero p)) or
    of_nothing (made I.Turn) or
    of_short (λ n. made (I.Call n)) or
    of_nothing (made I.Return) or
    of_place (λ p. made (I.Try p)) or
    of_nothing (made I.EndTry) or
    of_nothing (made I.Raise) or
    of_nothing (made I.Now) or
    of_nothing (made I.At) or
    of_nothing (made I.Delay) or
    of_two_bytes (λ m n. made (I.Out m n)) or
    of_byte (λ n. made (I.OutTo n)) or
    of_nothing (made I.Counter) or
    of_nothing (made I.Reset) or
    of_nothing (made I.Wait) or
    of_byte (λ n. made (I.Edge n)) or
    of_short (λ n. made (I.Record n)) or
    of_nothing (made I.Save) or
    of_short (λ n. made (I.Play n)) or
    of_nothing (made I.PlayHandle) or
    of_short (λ n. made (I.Handle n)) or
    of_short (λ n. made (I.Erase n)) or
    of_short (λ n. made (I.DataInt n)) or
    of_three_shorts (λ m n k. made (I.DataList m n k)) or
    of_two_shorts (λ m n. made (I.Fill m n)) or
    no_more

-- a list of instructions of these numbers
record MadeLines (parts : List LineParts) : Type 0 where
  lines : List CodeLine
  are : map parts_of_line lines ≡ parts

made_lines : (parts : List LineParts) → AllByRecursion FitsLine parts → MadeLines parts
made_lines [] h = record { lines = []; are = refl }
made_lines (line ∷ parts) h =
    let first = all_made.each line.op (omega arith) h.0.op line.operands h.0.operands in
    let others = made_lines parts h.1 in
    let same : parts_of_line (record { instr = first.instr; mark = line.mark }) ≡ line = λ i. record { op = first.has_op i; mark = line.mark; operands = first.has_operands i } in
    record { lines = record { instr = first.instr; mark = line.mark } ∷ others.lines; are = cc (same, others.are) }

-- code of these numbers
pub record MadeCode (parts : ImageParts) : Type 0 where
  pub code : Code
  pub is : parts_of code ≡ parts

pub made_code : (parts : ImageParts) → FitsImage parts → MadeCode parts
made_code parts h =
    let made = made_lines parts.lines h.lines in
    record {
      code = record { main = parts.main; names = parts.names; functions = parts.functions; lines = made.lines };
      is = λ i. record { main = parts.main; names = parts.names; functions = parts.functions; lines = made.are i };
    }
