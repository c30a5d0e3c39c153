-- An instruction in range, in numbers.
use Rattle.std.proofs.Common.{◌≡◌, ℕ, ◌≤◌, true, ltb, leb, refl, arith}
use Rattle.std.specs.Prelude.{ℤ, pos, negsuc, FitsSigned, ◌&&◌}
use Rattle.std.specs.Int.{w64}
use Rattle.std.proofs.lemmas.Bool.{and_parts, and_from, leb-true, ltb-true, lt-ltb}
use Rattle.core_isa.specs.declared.code.CodeLine.{CodeLine}
use Rattle.core_isa.specs.declared.instr.Instr.{Instr}
use Rattle.core_isa.specs.declared.instr.Instr.TheVariants as I
use Rattle.core_image.specs.Operands.{shape_of, op_of, operands_of}
use Rattle.core_image.specs.Parts.{parts_of_line}
use Rattle.core_image.specs.Ranges.{is_byte, is_short, is_integer, are_operands, is_mark_of_bytes, is_line}
use Rattle.core_image.proofs.ExactCode.{FitsOperands, FitsLine}

few_ops_test : (i : Instr) → leb (op_of i) 50 ≡ true
few_ops_test (I.Const v) = refl
few_ops_test (I.Load s) = refl
few_ops_test (I.Store s) = refl
few_ops_test (I.LoadAt s n) = refl
few_ops_test (I.StoreAt s n) = refl
few_ops_test I.Add = refl
few_ops_test I.Sub = refl
few_ops_test I.Mul = refl
few_ops_test I.Div = refl
few_ops_test I.Mod = refl
few_ops_test I.And = refl
few_ops_test I.Or = refl
few_ops_test I.Xor = refl
few_ops_test (I.Shl w) = refl
few_ops_test (I.Shr w) = refl
few_ops_test I.Neg = refl
few_ops_test I.Inv = refl
few_ops_test I.Wrap32 = refl
few_ops_test I.Eq = refl
few_ops_test I.Ne = refl
few_ops_test I.Lt = refl
few_ops_test I.Le = refl
few_ops_test I.Max = refl
few_ops_test I.Pop = refl
few_ops_test I.Dup = refl
few_ops_test (I.Jump p) = refl
few_ops_test (I.JumpZero p) = refl
few_ops_test I.Turn = refl
few_ops_test (I.Call f) = refl
few_ops_test I.Return = refl
few_ops_test (I.Try p) = refl
few_ops_test I.EndTry = refl
few_ops_test I.Raise = refl
few_ops_test I.Now = refl
few_ops_test I.At = refl
few_ops_test I.Delay = refl
few_ops_test (I.Out c a) = refl
few_ops_test (I.OutTo c) = refl
few_ops_test I.Counter = refl
few_ops_test I.Reset = refl
few_ops_test I.Wait = refl
few_ops_test (I.Edge c) = refl
few_ops_test (I.Record n) = refl
few_ops_test I.Save = refl
few_ops_test (I.Play n) = refl
few_ops_test I.PlayHandle = refl
few_ops_test (I.Handle n) = refl
few_ops_test (I.Erase n) = refl
few_ops_test (I.DataInt n) = refl
few_ops_test (I.DataList m s n) = refl
few_ops_test (I.Fill s n) = refl

few_ops : (i : Instr) → op_of i ≤ 50
few_ops i = leb-true (op_of i) 50 (few_ops_test i)

integer_fits : (v : ℤ) → is_integer v ≡ true → FitsSigned w64 v
integer_fits (pos n) h = record { sfits = ltb-true n 9223372036854775808 h }
integer_fits (negsuc n) h = record { sfits = ltb-true n 9223372036854775808 h }

fits_integer : (v : ℤ) → FitsSigned w64 v → is_integer v ≡ true
fits_integer (pos n) h = lt-ltb n 9223372036854775808 h.sfits
fits_integer (negsuc n) h = lt-ltb n 9223372036854775808 h.sfits

byte_fits : (n : ℕ) → is_byte n ≡ true → n ≤ 255
byte_fits n h = let lt = ltb-true n 256 h in omega arith

fits_byte : (n : ℕ) → n ≤ 255 → is_byte n ≡ true
fits_byte n h = lt-ltb n 256 (omega arith)

short_fits : (n : ℕ) → is_short n ≡ true → n ≤ 65535
short_fits n h = let lt = ltb-true n 65536 h in omega arith

fits_short : (n : ℕ) → n ≤ 65535 → is_short n ≡ true
fits_short n h = lt-ltb n 65536 (omega arith)

two_bytes_fit : (m n : ℕ) → (is_byte m && is_byte n) ≡ true → (m ≤ 255) × (n ≤ 255)
two_bytes_fit m n h = let p = and_parts (is_byte m) (is_byte n) h in (byte_fits m p.0, byte_fits n p.1)

two_shorts_fit : (m n : ℕ) → (is_short m && is_short n) ≡ true → (m ≤ 65535) × (n ≤ 65535)
two_shorts_fit m n h = let p = and_parts (is_short m) (is_short n) h in (short_fits m p.0, short_fits n p.1)

three_shorts_fit : (m n k : ℕ) → (is_short m && (is_short n && is_short k)) ≡ true → (m ≤ 65535) × (n ≤ 65535) × (k ≤ 65535)
three_shorts_fit m n k h =
    let p = and_parts (is_short m) (is_short n && is_short k) h in
    let q = and_parts (is_short n) (is_short k) p.1 in
    (short_fits m p.0, short_fits n q.0, short_fits k q.1)

place_fits : (n : ℕ) → ltb n 4294967296 ≡ true → n ≤ 4294967295
place_fits n h = let lt = ltb-true n 4294967296 h in omega arith

operands_fit : (i : Instr) → are_operands (operands_of i) ≡ true → FitsOperands (shape_of (op_of i)) (operands_of i)
operands_fit (I.Const v) h = integer_fits v h
operands_fit (I.Load s) h = short_fits s h
operands_fit (I.Store s) h = short_fits s h
operands_fit (I.LoadAt s n) h = two_shorts_fit s n h
operands_fit (I.StoreAt s n) h = two_shorts_fit s n h
operands_fit (I.Shl w) h = byte_fits w h
operands_fit (I.Shr w) h = byte_fits w h
operands_fit (I.Jump p) h = place_fits p h
operands_fit (I.JumpZero p) h = place_fits p h
operands_fit (I.Call f) h = short_fits f h
operands_fit (I.Try p) h = place_fits p h
operands_fit (I.Out c a) h = two_bytes_fit c a h
operands_fit (I.OutTo c) h = byte_fits c h
operands_fit (I.Edge c) h = byte_fits c h
operands_fit (I.Record n) h = short_fits n h
operands_fit (I.Play n) h = short_fits n h
operands_fit (I.Handle n) h = short_fits n h
operands_fit (I.Erase n) h = short_fits n h
operands_fit (I.DataInt n) h = short_fits n h
operands_fit (I.DataList m s n) h = three_shorts_fit m s n h
operands_fit (I.Fill s n) h = two_shorts_fit s n h
operands_fit I.Add h = tt
operands_fit I.Sub h = tt
operands_fit I.Mul h = tt
operands_fit I.Div h = tt
operands_fit I.Mod h = tt
operands_fit I.And h = tt
operands_fit I.Or h = tt
operands_fit I.Xor h = tt
operands_fit I.Neg h = tt
operands_fit I.Inv h = tt
operands_fit I.Wrap32 h = tt
operands_fit I.Eq h = tt
operands_fit I.Ne h = tt
operands_fit I.Lt h = tt
operands_fit I.Le h = tt
operands_fit I.Max h = tt
operands_fit I.Pop h = tt
operands_fit I.Dup h = tt
operands_fit I.Turn h = tt
operands_fit I.Return h = tt
operands_fit I.EndTry h = tt
operands_fit I.Raise h = tt
operands_fit I.Now h = tt
operands_fit I.At h = tt
operands_fit I.Delay h = tt
operands_fit I.Counter h = tt
operands_fit I.Reset h = tt
operands_fit I.Wait h = tt
operands_fit I.Save h = tt
operands_fit I.PlayHandle h = tt

fit_operands : (i : Instr) → FitsOperands (shape_of (op_of i)) (operands_of i) → are_operands (operands_of i) ≡ true
fit_operands (I.Const v) h = fits_integer v h
fit_operands (I.Load s) h = fits_short s h
fit_operands (I.Store s) h = fits_short s h
fit_operands (I.LoadAt s n) h = and_from _ _ (fits_short s h.0) (fits_short n h.1)
fit_operands (I.StoreAt s n) h = and_from _ _ (fits_short s h.0) (fits_short n h.1)
fit_operands (I.Shl w) h = fits_byte w h
fit_operands (I.Shr w) h = fits_byte w h
fit_operands (I.Jump p) h = lt-ltb p 4294967296 (omega arith)
fit_operands (I.JumpZero p) h = lt-ltb p 4294967296 (omega arith)
fit_operands (I.Call f) h = fits_short f h
fit_operands (I.Try p) h = lt-ltb p 4294967296 (omega arith)
fit_operands (I.Out c a) h = and_from _ _ (fits_byte c h.0) (fits_byte a h.1)
fit_operands (I.OutTo c) h = fits_byte c h
fit_operands (I.Edge c) h = fits_byte c h
fit_operands (I.Record n) h = fits_short n h
fit_operands (I.Play n) h = fits_short n h
fit_operands (I.Handle n) h = fits_short n h
fit_operands (I.Erase n) h = fits_short n h
fit_operands (I.DataInt n) h = fits_short n h
fit_operands (I.DataList m s n) h = and_from _ _ (fits_short m h.0) (and_from _ _ (fits_short s h.1) (fits_short n h.2))
fit_operands (I.Fill s n) h = and_from _ _ (fits_short s h.0) (fits_short n h.1)
fit_operands I.Add h = refl
fit_operands I.Sub h = refl
fit_operands I.Mul h = refl
fit_operands I.Div h = refl
fit_operands I.Mod h = refl
fit_operands I.And h = refl
fit_operands I.Or h = refl
fit_operands I.Xor h = refl
fit_operands I.Neg h = refl
fit_operands I.Inv h = refl
fit_operands I.Wrap32 h = refl
fit_operands I.Eq h = refl
fit_operands I.Ne h = refl
fit_operands I.Lt h = refl
fit_operands I.Le h = refl
fit_operands I.Max h = refl
fit_operands I.Pop h = refl
fit_operands I.Dup h = refl
fit_operands I.Turn h = refl
fit_operands I.Return h = refl
fit_operands I.EndTry h = refl
fit_operands I.Raise h = refl
fit_operands I.Now h = refl
fit_operands I.At h = refl
fit_operands I.Delay h = refl
fit_operands I.Counter h = refl
fit_operands I.Reset h = refl
fit_operands I.Wait h = refl
fit_operands I.Save h = refl
fit_operands I.PlayHandle h = refl

pub line_fits : (line : CodeLine) → is_line line ≡ true → FitsLine (parts_of_line line)
line_fits line h =
    let p = and_parts (is_mark_of_bytes line.mark) (are_operands (operands_of line.instr)) h in
    let q = and_parts (is_byte line.mark.height) (is_byte line.mark.tries && is_byte line.mark.rec) p.0 in
    let r = and_parts (is_byte line.mark.tries) (is_byte line.mark.rec) q.1 in
    record { op = few_ops line.instr; mark = record { height = byte_fits _ q.0; tries = byte_fits _ r.0; rec = byte_fits _ r.1 }; operands = operands_fit line.instr p.1 }

pub fits_line : (line : CodeLine) → FitsLine (parts_of_line line) → is_line line ≡ true
fits_line line h =
    and_from _ _ (and_from _ _ (fits_byte _ h.mark.height) (and_from _ _ (fits_byte _ h.mark.tries) (fits_byte _ h.mark.rec))) (fit_operands line.instr h.operands)
