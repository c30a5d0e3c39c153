-- The functions, the instructions and the whole of an image are read as they are spelled.
use Rattle.std.proofs.Common.{◌≡◌, ℕ, zero, suc, ◌+◌, ◌-◌, ◌^◌, ◌<◌, ◌≤◌, List, [], ◌∷◌, ◌++◌, length, refl, sym, ap, subst, append_assoc, arith}
use Rattle.std.specs.List.{flat_map, AllByRecursion}
use Rattle.std.specs.Prelude.{IsTrue, FitsSigned}
use Rattle.std.specs.Int.{w16, w32, w64, to_le_bytes, cast_signed, cast_unsigned}
use Rattle.std.proofs.Math.Facts.{sfits_to_z, Fits-of_z}
use Rattle.std.proofs.lemmas.Int.{of_z-to_z, to_z-of_z}
use Rattle.std.proofs.lemmas.List.{append-nil}
use Rattle.core_isa.specs.declared.code.CodeFunction.{CodeFunction}
use Rattle.core_image.specs.Fields.{Bytes}
use Rattle.core_image.specs.Operands.{Operands, nothing, integer, one_byte, two_bytes, short, two_shorts, three_shorts, place, shape_of}
use Rattle.core_image.specs.Parts.{LineParts, ImageParts}
use Rattle.core_image.specs.Reading.{functions_at, operands_at, line_at, image_at}
use Rattle.core_image.specs.Spelling.{magic_bytes, name_bytes, function_bytes, operand_bytes, line_bytes, head_bytes, spelling}
use Rattle.core_image.specs.declared.operands.Shape.{Shape}
use Rattle.core_image.specs.declared.operands.Shape.TheVariants as S
use Rattle.core_image.proofs.Exact.{IsSpelled, given_exact, then_exact, spelled_exact, exact_spelled, times_spelled}
use Rattle.core_image.proofs.ExactFields.{InRange, FitsFunction, FitsMark, byte_spelled, short_spelled, long_spelled, double_spelled, magic_spelled, name_spelled, function_spelled, mark_spelled}
use Rattle.rtio_types.specs.Names.{is_name}

-- ---- functions

-- functions each of which begins in its range
abbrev pub FitFunctions : (least most lines : ℕ) → List CodeFunction → Type 0
FitFunctions least most lines [] = Unit {0}
FitFunctions least most lines (f ∷ fs) = FitsFunction least most f × FitFunctions (f.first + 1) (lines - 1) lines fs

abbrev Functions : (count least most lines : ℕ) → List CodeFunction → Type 0
Functions count least most lines fs = (length fs ≡ count) × FitFunctions least most lines fs

no_function : (least most lines : ℕ) (fs : List CodeFunction) → Functions 0 least most lines fs → Unit {0} × ([] ≡ fs) × ([] ≡ flat_map function_bytes fs)
no_function least most lines [] h = (tt, refl, refl)
no_function least most lines (f ∷ fs) h = absurd (omega (arith, h.0))

one_more : (count least most lines : ℕ) (fs : List CodeFunction) → Functions (suc count) least most lines fs
    → (f : CodeFunction) × (others : List CodeFunction) × (FitsFunction least most f × Functions count (f.first + 1) (lines - 1) lines others)
    × (f ∷ others ≡ fs) × (function_bytes f ++ (flat_map function_bytes others ++ []) ≡ flat_map function_bytes fs)
one_more count least most lines [] h = absurd (omega (arith, h.0))
one_more count least most lines (f ∷ fs) h = (f, fs, (h.1.0, (omega (arith, h.0), h.1.1)), refl, ap (λ (t : Bytes). function_bytes f ++ t) (append-nil (flat_map function_bytes fs)))

pub functions_spelled : (count least most lines : ℕ) → most < 2 ^ 32 → lines ≤ 2 ^ 32 → IsSpelled (functions_at count least most lines) (flat_map function_bytes) (Functions count least most lines)
unfolding functions_at
functions_spelled zero least most lines small few = exact_spelled (given_exact []) (λ _. ((refl, tt), refl)) (no_function least most lines)
functions_spelled (suc count) least most lines small few =
    exact_spelled
    (then_exact _ _ _ _ (spelled_exact (function_spelled least most small)) (λ f. then_exact _ _ _ _ (spelled_exact (functions_spelled count (f.0.first + 1) (lines - 1) lines (omega arith) few)) (λ fs. given_exact (f.0 ∷ fs.0))))
    (λ w. ((ap suc w.1.0.1.0, (w.0.1, w.1.0.1.1)), ap (λ (t : Bytes). function_bytes w.0.0 ++ t) (append-nil (flat_map function_bytes w.1.0.0))))
    (λ fs h. let p = one_more count least most lines fs h in (((p.0, p.2.0), ((p.1, p.2.1), tt)), p.3, p.4))

-- ---- operands

-- operands of a shape, of their widths
abbrev pub FitsOperands : Shape → Operands → Type 0
FitsOperands S.Nothing nothing = Unit {0}
FitsOperands S.Integer (integer v) = FitsSigned w64 v
FitsOperands S.Byte (one_byte n) = n ≤ 255
FitsOperands S.TwoBytes (two_bytes m n) = (m ≤ 255) × (n ≤ 255)
FitsOperands S.Short (short n) = n ≤ 65535
FitsOperands S.TwoShorts (two_shorts m n) = (m ≤ 65535) × (n ≤ 65535)
FitsOperands S.ThreeShorts (three_shorts m n k) = (m ≤ 65535) × (n ≤ 65535) × (k ≤ 65535)
FitsOperands S.Place (place p) = p ≤ 4294967295
FitsOperands shape operands = ⊥

integer_to : (o : Operands) → FitsOperands S.Integer o → (w : ((n : ℕ) × InRange 0 18446744073709551615 n) × Unit {0}) × (integer (cast_signed w64 w.0.0) ≡ o) × (to_le_bytes w64 w.0.0 ++ [] ≡ operand_bytes o)
integer_to (integer v) h =
    let small = Fits-of_z {w = w64} {z = v} h in
    (((cast_unsigned w64 v, (omega arith, omega arith)), tt), ap integer (to_z-of_z w64 v h), refl)
integer_to o h = absurd h

byte_to : (o : Operands) → FitsOperands S.Byte o → (w : ((n : ℕ) × InRange 0 255 n) × Unit {0}) × (one_byte w.0.0 ≡ o) × ((w.0.0 ∷ []) ++ [] ≡ operand_bytes o)
byte_to (one_byte n) h = (((n, (omega arith, h)), tt), refl, refl)
byte_to o h = absurd h

abbrev TwoOf : ℕ → Type 0
TwoOf most = ((n : ℕ) × InRange 0 most n) × (((n : ℕ) × InRange 0 most n) × Unit {0})

abbrev ThreeOf : ℕ → Type 0
ThreeOf most = ((n : ℕ) × InRange 0 most n) × (TwoOf most)

two_bytes_to : (o : Operands) → FitsOperands S.TwoBytes o → (w : TwoOf 255) × (two_bytes w.0.0 w.1.0.0 ≡ o) × ((w.0.0 ∷ []) ++ ((w.1.0.0 ∷ []) ++ []) ≡ operand_bytes o)
two_bytes_to (two_bytes m n) h = (((m, (omega arith, h.0)), ((n, (omega arith, h.1)), tt)), refl, refl)
two_bytes_to o h = absurd h

short_to : (o : Operands) → FitsOperands S.Short o → (w : ((n : ℕ) × InRange 0 65535 n) × Unit {0}) × (short w.0.0 ≡ o) × (to_le_bytes w16 w.0.0 ++ [] ≡ operand_bytes o)
short_to (short n) h = (((n, (omega arith, h)), tt), refl, refl)
short_to o h = absurd h

two_shorts_to : (o : Operands) → FitsOperands S.TwoShorts o → (w : TwoOf 65535) × (two_shorts w.0.0 w.1.0.0 ≡ o) × (to_le_bytes w16 w.0.0 ++ (to_le_bytes w16 w.1.0.0 ++ []) ≡ operand_bytes o)
two_shorts_to (two_shorts m n) h = (((m, (omega arith, h.0)), ((n, (omega arith, h.1)), tt)), refl, refl)
two_shorts_to o h = absurd h

three_shorts_to : (o : Operands) → FitsOperands S.ThreeShorts o → (w : ThreeOf 65535) × (three_shorts w.0.0 w.1.0.0 w.1.1.0.0 ≡ o)
    × (to_le_bytes w16 w.0.0 ++ (to_le_bytes w16 w.1.0.0 ++ (to_le_bytes w16 w.1.1.0.0 ++ [])) ≡ operand_bytes o)
three_shorts_to (three_shorts m n k) h = (((m, (omega arith, h.0)), ((n, (omega arith, h.1)), ((k, (omega arith, h.2)), tt))), refl, refl)
three_shorts_to o h = absurd h

place_to : (o : Operands) → FitsOperands S.Place o → (w : ((n : ℕ) × InRange 0 4294967295 n) × Unit {0}) × (place w.0.0 ≡ o) × (to_le_bytes w32 w.0.0 ++ [] ≡ operand_bytes o)
place_to (place p) h = (((p, (omega arith, h)), tt), refl, refl)
place_to o h = absurd h

nothing_to : (o : Operands) → FitsOperands S.Nothing o → Unit {0} × (nothing ≡ o) × ([] ≡ operand_bytes o)
nothing_to nothing h = (tt, refl, refl)
nothing_to o h = absurd h

integer_from : (w : ((n : ℕ) × InRange 0 18446744073709551615 n) × Unit {0}) → FitsSigned w64 (cast_signed w64 w.0.0) × (to_le_bytes w64 w.0.0 ++ [] ≡ operand_bytes (integer (cast_signed w64 w.0.0)))
integer_from w =
    let small : w.0.0 < 2 ^ 64 = omega (arith, w.0.1.1) in
    (sfits_to_z {w = w64} {n = w.0.0} (record { fits = small }), ap (to_le_bytes w64) (sym (of_z-to_z w64 w.0.0 small)))

pub operands_spelled : (shape : Shape) → IsSpelled (operands_at shape) operand_bytes (FitsOperands shape)
unfolding operands_at
operands_spelled S.Nothing = exact_spelled (given_exact nothing) (λ _. (tt, refl)) nothing_to
operands_spelled S.Integer = exact_spelled (then_exact _ _ _ _ (spelled_exact (double_spelled 0 18446744073709551615 (omega arith))) (λ n. given_exact _)) integer_from integer_to
operands_spelled S.Byte = exact_spelled (then_exact _ _ _ _ (spelled_exact (byte_spelled 0 255)) (λ n. given_exact _)) (λ w. (w.0.1.1, refl)) byte_to
operands_spelled S.TwoBytes =
    exact_spelled (then_exact _ _ _ _ (spelled_exact (byte_spelled 0 255)) (λ m. then_exact _ _ _ _ (spelled_exact (byte_spelled 0 255)) (λ n. given_exact _)))
    (λ w. ((w.0.1.1, w.1.0.1.1), refl)) two_bytes_to
operands_spelled S.Short = exact_spelled (then_exact _ _ _ _ (spelled_exact (short_spelled 0 65535 (omega arith))) (λ n. given_exact _)) (λ w. (w.0.1.1, refl)) short_to
operands_spelled S.TwoShorts =
    exact_spelled (then_exact _ _ _ _ (spelled_exact (short_spelled 0 65535 (omega arith))) (λ m. then_exact _ _ _ _ (spelled_exact (short_spelled 0 65535 (omega arith))) (λ n. given_exact _)))
    (λ w. ((w.0.1.1, w.1.0.1.1), refl)) two_shorts_to
operands_spelled S.ThreeShorts =
    exact_spelled
    (then_exact _ _ _ _ (spelled_exact (short_spelled 0 65535 (omega arith))) (λ m. then_exact _ _ _ _ (spelled_exact (short_spelled 0 65535 (omega arith))) (λ n. then_exact _ _ _ _ (spelled_exact (short_spelled 0 65535 (omega arith))) (λ k. given_exact _))))
    (λ w. ((w.0.1.1, w.1.0.1.1, w.1.1.0.1.1), refl)) three_shorts_to
operands_spelled S.Place = exact_spelled (then_exact _ _ _ _ (spelled_exact (long_spelled 0 4294967295 (omega arith))) (λ p. given_exact _)) (λ w. (w.0.1.1, refl)) place_to

-- ---- instructions

pub record FitsLine (line : LineParts) : Type 0 where
  pub op : line.op ≤ 50
  pub mark : FitsMark line.mark
  pub operands : FitsOperands (shape_of line.op) line.operands

pub line_spelled : IsSpelled line_at line_bytes FitsLine
unfolding line_at
line_spelled =
    exact_spelled
    (then_exact _ _ _ _ (spelled_exact (byte_spelled 0 50)) (λ op. then_exact _ _ _ _ (spelled_exact mark_spelled) (λ mark. then_exact _ _ _ _ (spelled_exact (operands_spelled (shape_of op.0))) (λ operands. given_exact _))))
    (λ w. (record { op = w.0.1.1; mark = w.1.0.1; operands = w.1.1.0.1 }, ap (λ (t : Bytes). w.0.0 ∷ w.1.0.0.height ∷ w.1.0.0.tries ∷ w.1.0.0.rec ∷ t) (append-nil (operand_bytes w.1.1.0.0))))
    (λ line h. (((line.op, (omega arith, h.op)), ((line.mark, h.mark), ((line.operands, h.operands), tt))), refl, ap (λ (t : Bytes). line.op ∷ line.mark.height ∷ line.mark.tries ∷ line.mark.rec ∷ t) (append-nil (operand_bytes line.operands))))

-- ---- the image

pub record FitsImage (image : ImageParts) : Type 0 where
  pub function_count : InRange 1 256 (length image.functions)
  pub main : InRange 0 (length image.functions - 1) image.main
  pub name_count : InRange 0 65535 (length image.names)
  pub line_count : InRange (length image.functions) 262144 (length image.lines)
  pub names : AllByRecursion (λ x. IsTrue (is_name x)) image.names
  pub functions : FitFunctions 0 0 (length image.lines) image.functions
  pub lines : AllByRecursion FitsLine image.lines

-- the spelling, piece by piece
pieces : (magic : Bytes) (functions main names lines : ℕ) (name_text function_text line_text : Bytes) → Bytes
pieces magic functions main names lines name_text function_text line_text =
    magic ++ (to_le_bytes w16 functions ++ (to_le_bytes w16 main ++ (to_le_bytes w16 names ++ (to_le_bytes w32 lines ++ (name_text ++ (function_text ++ (line_text ++ [])))))))

pieces_are : (image : ImageParts) (magic : Bytes) (functions names lines : ℕ) → magic ≡ magic_bytes → length image.functions ≡ functions → length image.names ≡ names → length image.lines ≡ lines
    → pieces magic functions image.main names lines (flat_map name_bytes image.names) (flat_map function_bytes image.functions) (flat_map line_bytes image.lines) ≡ spelling image
unfolding pieces
pieces_are image magic functions names lines m f n l =
    let texts : flat_map name_bytes image.names ++ (flat_map function_bytes image.functions ++ (flat_map line_bytes image.lines ++ [])) ≡ flat_map name_bytes image.names ++ flat_map function_bytes image.functions ++ flat_map line_bytes image.lines
    = simp (append-nil, append_assoc) in
    rw (m, ← f, ← n, ← l) (ap (λ (t : Bytes). head_bytes (length image.functions) image.main (length image.names) (length image.lines) ++ t) texts)

pub image_spelled : IsSpelled image_at spelling FitsImage
unfolding image_at pieces
image_spelled =
    exact_spelled
    (then_exact _ _ _ _ (spelled_exact magic_spelled) (λ magic.
    then_exact _ _ _ _ (spelled_exact (short_spelled 1 256 (omega arith))) (λ function_count.
    then_exact _ _ _ _ (spelled_exact (short_spelled 0 (function_count.0 - 1) (omega (arith, function_count.1.1)))) (λ main.
    then_exact _ _ _ _ (spelled_exact (short_spelled 0 65535 (omega arith))) (λ name_count.
    then_exact _ _ _ _ (spelled_exact (long_spelled function_count.0 262144 (omega arith))) (λ line_count.
    then_exact _ _ _ _ (spelled_exact (times_spelled name_count.0 name_spelled)) (λ names.
    then_exact _ _ _ _ (spelled_exact (functions_spelled function_count.0 0 0 line_count.0 (omega arith) (omega (arith, line_count.1.1)))) (λ functions.
    then_exact _ _ _ _ (spelled_exact (times_spelled line_count.0 line_spelled)) (λ lines. given_exact _)))))))))
    (λ w.
    let names = w.1.1.1.1.1.0 in
    let functions = w.1.1.1.1.1.1.0 in
    let lines = w.1.1.1.1.1.1.1.0 in (
      record {
        function_count = subst (InRange 1 256) (sym functions.1.0) w.1.0.1;
        main = subst (λ (n : ℕ). InRange 0 (n - 1) w.1.1.0.0) (sym functions.1.0) w.1.1.0.1;
        name_count = subst (InRange 0 65535) (sym names.1.0) w.1.1.1.0.1;
        line_count = subst (λ (n : ℕ). InRange n 262144 (length lines.0)) (sym functions.1.0) (subst (InRange w.1.0.0 262144) (sym lines.1.0) w.1.1.1.1.0.1);
        names = names.1.1;
        functions = subst (λ (n : ℕ). FitFunctions 0 0 n functions.0) (sym lines.1.0) functions.1.1;
        lines = lines.1.1;
      },
      pieces_are (record { main = w.1.1.0.0; names = names.0; functions = functions.0; lines = lines.0 }) w.0.0 w.1.0.0 w.1.1.1.0.0 w.1.1.1.1.0.0 w.0.1 functions.1.0 names.1.0 lines.1.0,
    ))
    (λ image h. (
      (
        (magic_bytes, refl),
        (
          (length image.functions, h.function_count),
          (
            (image.main, h.main),
            (
              (length image.names, h.name_count),
              (
                (length image.lines, h.line_count),
                ((image.names, (refl, h.names)), ((image.functions, (refl, h.functions)), ((image.lines, (refl, h.lines)), tt))),
              ),
            ),
          ),
        ),
      ),
      refl,
      pieces_are image magic_bytes (length image.functions) (length image.names) (length image.lines) refl refl refl refl,
    ))
