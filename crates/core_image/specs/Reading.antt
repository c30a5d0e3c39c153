-- The fields of Table stated a second time, for the proofs of a decoder: an image is read from left to right, up to the
-- first wrong field.
use Rattle.std.specs.Prelude.{◌≡◌, ℕ, zero, suc, ◌+◌, ◌-◌, ◌^◌, ◌%◌, ◌/◌, List, [], ◌∷◌, Bool, ◌&&◌, ◌==◌}
use Rattle.std.specs.Prelude.{nat_le, length, take, drop, slice_index, Result, Ok, Err, if◌then◌else◌, bytes_eq}
use Rattle.std.specs.List.{list_all}
use Rattle.std.specs.Int.{Width, byte_len, from_le_bytes, w16, w32, w64, cast_signed}
use Rattle.core_image.specs.Fields.{Bytes, Format, give, field, is_between}
use Rattle.core_image.specs.Operands.{Operands, nothing, integer, one_byte, two_bytes}
use Rattle.core_image.specs.Operands.{short, two_shorts, three_shorts, place, shape_of}
use Rattle.core_image.specs.Parts.{LineParts, ImageParts}
use Rattle.core_image.specs.Spelling.{magic_bytes}
use Rattle.core_image.specs.declared.operands.Shape.{Shape}
use Rattle.core_image.specs.declared.operands.Shape.TheVariants as S
use Rattle.core_image.specs.declared.reader.ReadEnd.{ReadEnd}
use Rattle.core_image.specs.declared.reader.ReadEnd.TheVariants.{Memory, Wrong}
use Rattle.core_image.specs.declared.reader.WrongField.{WrongField}
use Rattle.core_isa.specs.declared.code.CodeFunction.{CodeFunction}
use Rattle.core_isa.specs.declared.code.Mark.{Mark}
use Rattle.rtio_types.specs.Names.{is_word_byte}

-- a value and the bytes behind it, or the bytes from the first wrong field on
abbrev pub Read : Type 0 → Type 0
Read A = Result (A × Bytes) Bytes

-- one after another
infixl 10 ◌>>=◌
abbrev pub ◌>>=◌ : {A B : Type 0} → Result A Bytes → (A → Result B Bytes) → Result B Bytes
(Ok x) >>= f = f x
(Err rest) >>= f = Err rest

-- what the fields at the front of some bytes give
abbrev pub read : {A : Type 0} → Format A → Bytes → Read A
read (give x) bytes = Ok (x, bytes)
read (field width test next) bytes =
    if nat_le width (length bytes) && test (take width bytes) then read (next (take width bytes)) (drop width bytes)
    else Err bytes

-- what a function returned and left is what reading gives
abbrev pub Reads : {X Y : Type 0} → (X → Y) → Result X WrongField → (rest : Bytes) → Read Y → Type 0
Reads view (Ok x) rest found = found ≡ Ok (view x, rest)
Reads view (Err e) rest found = found ≡ Err rest

-- the same of a function that keeps nothing: what it left is what reading leaves
abbrev pub Passes : {X Y : Type 0} → Result X WrongField → (rest : Bytes) → Read Y → Type 0
Passes {Y = Y} (Ok x) rest found = (value : Y) × (found ≡ Ok (value, rest))
Passes (Err e) rest found = found ≡ Err rest

-- the same of a function that keeps what it reads, unless memory ran out
abbrev pub Fails : {Y : Type 0} → ReadEnd → (rest : Bytes) → Read Y → Type 0
Fails Memory rest found = Unit {0}
Fails Wrong rest found = found ≡ Err rest

abbrev pub Gives : {X Y : Type 0} → (X → Y) → Result X ReadEnd → (rest : Bytes) → Read Y → Type 0
Gives view (Ok x) rest found = found ≡ Ok (view x, rest)
Gives view (Err e) rest found = Fails e rest found

unfoldable pub byte_at : (least most : ℕ) → Bytes → Read ℕ
byte_at least most bytes =
    if nat_le 1 (length bytes) && is_between least most (slice_index bytes 0) then Ok (slice_index bytes 0, drop 1 bytes)
    else Err bytes

unfoldable pub number_at : Width → (least most : ℕ) → Bytes → Read ℕ
number_at w least most bytes =
    if nat_le (byte_len w) (length bytes) && is_between least most (from_le_bytes w bytes)
    then Ok (from_le_bytes w bytes, drop (byte_len w) bytes)
    else Err bytes

-- so many bytes that meet a test
unfoldable pub bytes_at : (len : ℕ) → (Bytes → Bool) → Bytes → Read Bytes
bytes_at len test bytes =
    if nat_le len (length bytes) && test (take len bytes) then Ok (take len bytes, drop len bytes) else Err bytes

-- the same so many times
unfoldable pub times_at : {A : Type 0} → (Bytes → Read A) → (count : ℕ) → Bytes → Read (List A)
times_at one zero bytes = Ok ([], bytes)
times_at one (suc count) bytes = do
  first ← one bytes
  others ← times_at one count first.1
  Ok (first.0 ∷ others.0, others.1)

unfoldable pub magic_at : Bytes → Read Bytes
magic_at bytes = bytes_at 4 (λ front. bytes_eq front magic_bytes) bytes

unfoldable pub name_at : Bytes → Read Bytes
name_at bytes = do
  len ← byte_at 1 32 bytes
  bytes_at len.0 (list_all is_word_byte) len.1

unfoldable pub function_at : (least most : ℕ) → Bytes → Read CodeFunction
function_at least most bytes = do
  first ← number_at w32 least most bytes
  params ← byte_at 0 8 first.1
  slots ← number_at w16 params.0 (2 ^ 16 - 1) params.1
  flags ← byte_at 0 3 slots.1
  Ok (
    record { first = first.0; params = params.0; slots = slots.0; value = flags.0 % 2 == 1; plain = flags.0 / 2 == 1 },
    flags.1,
  )

unfoldable pub functions_at : (count least most lines : ℕ) → Bytes → Read (List CodeFunction)
functions_at zero least most lines bytes = Ok ([], bytes)
functions_at (suc count) least most lines bytes = do
  first ← function_at least most bytes
  others ← functions_at count (first.0.first + 1) (lines - 1) lines first.1
  Ok (first.0 ∷ others.0, others.1)

unfoldable pub operands_at : Shape → Bytes → Read Operands
operands_at S.Nothing bytes = Ok (nothing, bytes)
operands_at S.Integer bytes = do
  n ← number_at w64 0 (2 ^ 64 - 1) bytes
  Ok (integer (cast_signed w64 n.0), n.1)
operands_at S.Byte bytes = do
  n ← byte_at 0 (2 ^ 8 - 1) bytes
  Ok (one_byte n.0, n.1)
operands_at S.TwoBytes bytes = do
  m ← byte_at 0 (2 ^ 8 - 1) bytes
  n ← byte_at 0 (2 ^ 8 - 1) m.1
  Ok (two_bytes m.0 n.0, n.1)
operands_at S.Short bytes = do
  n ← number_at w16 0 (2 ^ 16 - 1) bytes
  Ok (short n.0, n.1)
operands_at S.TwoShorts bytes = do
  m ← number_at w16 0 (2 ^ 16 - 1) bytes
  n ← number_at w16 0 (2 ^ 16 - 1) m.1
  Ok (two_shorts m.0 n.0, n.1)
operands_at S.ThreeShorts bytes = do
  m ← number_at w16 0 (2 ^ 16 - 1) bytes
  n ← number_at w16 0 (2 ^ 16 - 1) m.1
  k ← number_at w16 0 (2 ^ 16 - 1) n.1
  Ok (three_shorts m.0 n.0 k.0, k.1)
operands_at S.Place bytes = do
  p ← number_at w32 0 (2 ^ 32 - 1) bytes
  Ok (place p.0, p.1)

unfoldable pub mark_at : Bytes → Read Mark
mark_at bytes = do
  height ← byte_at 0 (2 ^ 8 - 1) bytes
  tries ← byte_at 0 (2 ^ 8 - 1) height.1
  rec ← byte_at 0 (2 ^ 8 - 1) tries.1
  Ok (record { height = height.0; tries = tries.0; rec = rec.0 }, rec.1)

unfoldable pub line_at : Bytes → Read LineParts
line_at bytes = do
  op ← byte_at 0 50 bytes
  mark ← mark_at op.1
  operands ← operands_at (shape_of op.0) mark.1
  Ok (record { op = op.0; mark = mark.0; operands = operands.0 }, operands.1)

unfoldable pub image_at : Bytes → Read ImageParts
image_at bytes = do
  magic ← magic_at bytes
  function_count ← number_at w16 1 256 magic.1
  main ← number_at w16 0 (function_count.0 - 1) function_count.1
  name_count ← number_at w16 0 (2 ^ 16 - 1) main.1
  line_count ← number_at w32 function_count.0 262144 name_count.1
  names ← times_at name_at name_count.0 line_count.1
  functions ← functions_at function_count.0 0 0 line_count.0 names.1
  lines ← times_at line_at line_count.0 functions.1
  Ok (record { main = main.0; names = names.0; functions = functions.0; lines = lines.0 }, lines.1)
