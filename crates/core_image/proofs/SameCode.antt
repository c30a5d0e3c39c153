-- Equal numbers are of equal code.
use Rattle.std.proofs.Common.{◌≡◌, ℕ, List, [], ◌∷◌, map, Option, Some, None, refl, sym, ap, ◌∙◌}
use Rattle.std.specs.Prelude.{ℤ, slice_get}
use Rattle.core_isa.specs.declared.code.Code.{Code}
use Rattle.core_isa.specs.declared.code.CodeLine.{CodeLine}
use Rattle.core_isa.specs.declared.instr.Instr.{Instr}
use Rattle.core_isa.specs.declared.instr.Instr.TheVariants as I
use Rattle.core_image.specs.Operands.{Operands, integer, one_byte, two_bytes, short, two_shorts, three_shorts, place, op_of, operands_of}
use Rattle.core_image.specs.Parts.{LineParts, ImageParts, parts_of, parts_of_line}

-- the instruction of a number with some operands
abbrev of_integer : (ℤ → Instr) → Operands → Option Instr
of_integer make (integer v) = Some (make v)
of_integer make o = None

abbrev of_byte : (ℕ → Instr) → Operands → Option Instr
of_byte make (one_byte n) = Some (make n)
of_byte make o = None

abbrev of_two_bytes : (ℕ → ℕ → Instr) → Operands → Option Instr
of_two_bytes make (two_bytes m n) = Some (make m n)
of_two_bytes make o = None

abbrev of_short : (ℕ → Instr) → Operands → Option Instr
of_short make (short n) = Some (make n)
of_short make o = None

abbrev of_two_shorts : (ℕ → ℕ → Instr) → Operands → Option Instr
of_two_shorts make (two_shorts m n) = Some (make m n)
of_two_shorts make o = None

abbrev of_three_shorts : (ℕ → ℕ → ℕ → Instr) → Operands → Option Instr
of_three_shorts make (three_shorts m n k) = Some (make m n k)
of_three_shorts make o = None

abbrev of_place : (ℕ → Instr) → Operands → Option Instr
of_place make (place p) = Some (make p)
of_place make o = None

abbrev makers : List (Operands → Option Instr)
makers =
    of_integer I.Const ∷
    of_short I.Load ∷
    of_short I.Store ∷
    of_two_shorts I.LoadAt ∷
    of_two_shorts I.StoreAt ∷
    (λ _. Some I.Add) ∷
    (λ _. Some I.Sub) ∷
    (λ _. Some I.Mul) ∷
    (λ _. Some I.Div) ∷
    (λ _. Some I.Mod) ∷
    (λ _. Some I.And) ∷
    (λ _. Some I.Or) ∷
    (λ _. Some I.Xor) ∷
    of_byte I.Shl ∷
    of_byte I.Shr ∷
    (λ _. Some I.Neg) ∷
    (λ _. Some I.Inv) ∷
    (λ _. Some I.Wrap32) ∷
    (λ _. Some I.Eq) ∷
    (λ _. Some I.Ne) ∷
    (λ _. Some I.Lt) ∷
    (λ _. Some I.Le) ∷
    (λ _. Some I.Max) ∷
    (λ _. Some I.Pop) ∷
    (λ _. Some I.Dup) ∷
    of_place I.Jump ∷
    of_place I.JumpZero ∷
    (λ _. Some I.Turn) ∷
    of_short I.Call ∷
    (λ _. Some I.Return) ∷
    of_place I.Try ∷
    (λ _. Some I.EndTry) ∷
    (λ _. Some I.Raise) ∷
    (λ _. Some I.Now) ∷
    (λ _. Some I.At) ∷
    (λ _. Some I.Delay) ∷
    of_two_bytes I.Out ∷
    of_byte I.OutTo ∷
    (λ _. Some I.Counter) ∷
    (λ _. Some I.Reset) ∷
    (λ _. Some I.Wait) ∷
    of_byte I.Edge ∷
    of_short I.Record ∷
    (λ _. Some I.Save) ∷
    of_short I.Play ∷
    (λ _. Some I.PlayHandle) ∷
    of_short I.Handle ∷
    of_short I.Erase ∷
    of_short I.DataInt ∷
    of_three_shorts I.DataList ∷
    of_two_shorts I.Fill ∷
    []

abbrev made_by : Option (Operands → Option Instr) → Operands → Option Instr
made_by None o = None
made_by (Some maker) o = maker o

abbrev made : ℕ → Operands → Option Instr
made op o = made_by (slice_get makers op) o

made_again : (i : Instr) → made (op_of i) (operands_of i) ≡ Some i
made_again (I.Const v) = refl
made_again (I.Load s) = refl
made_again (I.Store s) = refl
made_again (I.LoadAt s n) = refl
made_again (I.StoreAt s n) = refl
made_again I.Add = refl
made_again I.Sub = refl
made_again I.Mul = refl
made_again I.Div = refl
made_again I.Mod = refl
made_again I.And = refl
made_again I.Or = refl
made_again I.Xor = refl
made_again (I.Shl w) = refl
made_again (I.Shr w) = refl
made_again I.Neg = refl
made_again I.Inv = refl
made_again I.Wrap32 = refl
made_again I.Eq = refl
made_again I.Ne = refl
made_again I.Lt = refl
made_again I.Le = refl
made_again I.Max = refl
made_again I.Pop = refl
made_again I.Dup = refl
made_again (I.Jump p) = refl
made_again (I.JumpZero p) = refl
made_again I.Turn = refl
made_again (I.Call f) = refl
made_again I.Return = refl
made_again (I.Try p) = refl
made_again I.EndTry = refl
made_again I.Raise = refl
made_again I.Now = refl
made_again I.At = refl
made_again I.Delay = refl
made_again (I.Out c a) = refl
made_again (I.OutTo c) = refl
made_again I.Counter = refl
made_again I.Reset = refl
made_again I.Wait = refl
made_again (I.Edge c) = refl
made_again (I.Record n) = refl
made_again I.Save = refl
made_again (I.Play n) = refl
made_again I.PlayHandle = refl
made_again (I.Handle n) = refl
made_again (I.Erase n) = refl
made_again (I.DataInt n) = refl
made_again (I.DataList m s n) = refl
made_again (I.Fill s n) = refl

same_instr : (i j : Instr) → op_of i ≡ op_of j → operands_of i ≡ operands_of j → i ≡ j
same_instr i j op operands =
    let both : made (op_of i) (operands_of i) ≡ made (op_of j) (operands_of j) = ap (λ (n : ℕ). made n (operands_of i)) op ∙ ap (made (op_of j)) operands in
    let some : Some i ≡ Some j = sym (made_again i) ∙ both ∙ made_again j in
    cc

same_line : (a b : CodeLine) → parts_of_line a ≡ parts_of_line b → a ≡ b
same_line a b e =
    let instr = same_instr a.instr b.instr (ap (λ (p : LineParts). p.op) e) (ap (λ (p : LineParts). p.operands) e) in
    let mark = ap (λ (p : LineParts). p.mark) e in
    λ i. record { instr = instr i; mark = mark i }

same_lines : (xs ys : List CodeLine) → map parts_of_line xs ≡ map parts_of_line ys → xs ≡ ys
same_lines [] [] e = refl
same_lines [] (b ∷ ys) e = absurd cc
same_lines (a ∷ xs) [] e = absurd cc
same_lines (a ∷ xs) (b ∷ ys) e =
    let first : parts_of_line a ≡ parts_of_line b = cc in
    let others : map parts_of_line xs ≡ map parts_of_line ys = cc in
    let one = same_line a b first in
    let more = same_lines xs ys others in
    cc

pub same_code : (a b : Code) → parts_of a ≡ parts_of b → a ≡ b
same_code a b e =
    let main = ap (λ (p : ImageParts). p.main) e in
    let names = ap (λ (p : ImageParts). p.names) e in
    let functions = ap (λ (p : ImageParts). p.functions) e in
    let lines = same_lines a.lines b.lines (ap (λ (p : ImageParts). p.lines) e) in
    λ i. record { main = main i; names = names i; functions = functions i; lines = lines i }
