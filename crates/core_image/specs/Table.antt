-- The fields of an image, in their order, each with its range.
use Rattle.std.specs.Prelude.{ℕ, zero, suc, ◌+◌, ◌-◌, ◌^◌, ◌%◌, ◌/◌, ◌==◌, List, [], ◌∷◌, bytes_eq}
use Rattle.std.specs.List.{list_all}
use Rattle.std.specs.Int.{w16, w32, w64, cast_signed}
use Rattle.core_image.specs.Fields.{Bytes, Format, give, field, ◌>>=◌, byte, number}
use Rattle.core_image.specs.Operands.{Operands, nothing, integer, one_byte, two_bytes}
use Rattle.core_image.specs.Operands.{short, two_shorts, three_shorts, place, shape_of}
use Rattle.core_image.specs.Parts.{LineParts, ImageParts}
use Rattle.core_image.specs.Spelling.{magic_bytes}
use Rattle.core_image.specs.declared.operands.Shape.{Shape}
use Rattle.core_image.specs.declared.operands.Shape.TheVariants as S
use Rattle.core_isa.specs.declared.code.CodeFunction.{CodeFunction}
use Rattle.core_isa.specs.declared.code.Mark.{Mark}
use Rattle.rtio_types.specs.Names.{is_word_byte}

-- a byte, and numbers of 2 and 4 bytes, of any value
abbrev pub any_byte : Format ℕ
any_byte = byte 0 (2 ^ 8 - 1)

abbrev pub any_short : Format ℕ
any_short = number w16 0 (2 ^ 16 - 1)

abbrev pub any_place : Format ℕ
any_place = number w32 0 (2 ^ 32 - 1)

-- the same fields so many times
abbrev pub times : {A : Type 0} → Format A → (count : ℕ) → Format (List A)
times one zero = give []
times one (suc count) = do
  first ← one
  others ← times one count
  give (first ∷ others)

-- the first four bytes
abbrev pub magic : Format Bytes
magic = field 4 (λ bytes. bytes_eq bytes magic_bytes) give

-- a name: its length, and so many letters, digits and underscores
abbrev pub text : ℕ → Format Bytes
text len = field len (list_all is_word_byte) give

abbrev pub name : Format Bytes
name = do
  len ← byte 1 32
  text len

-- a function whose first place is in this range: at most 8 parameters, at least so many slots, and the flags
abbrev pub function : (least most : ℕ) → Format CodeFunction
function least most = do
  first ← number w32 least most
  params ← byte 0 8
  slots ← number w16 params (2 ^ 16 - 1)
  flags ← byte 0 3
  give (record { first = first; params = params; slots = slots; value = flags % 2 == 1; plain = flags / 2 == 1 })

-- so many functions: the first of them begins in this range, and each later one behind the one before it and within the
-- code
abbrev pub functions : (count least most lines : ℕ) → Format (List CodeFunction)
functions zero least most lines = give []
functions (suc count) least most lines = do
  first ← function least most
  others ← functions count (first.first + 1) (lines - 1) lines
  give (first ∷ others)

-- the operands of a shape
abbrev pub operands : Shape → Format Operands
operands S.Nothing = give nothing
operands S.Integer = do
  n ← number w64 0 (2 ^ 64 - 1)
  give (integer (cast_signed w64 n))
operands S.Byte = do
  n ← any_byte
  give (one_byte n)
operands S.TwoBytes = do
  m ← any_byte
  n ← any_byte
  give (two_bytes m n)
operands S.Short = do
  n ← any_short
  give (short n)
operands S.TwoShorts = do
  m ← any_short
  n ← any_short
  give (two_shorts m n)
operands S.ThreeShorts = do
  m ← any_short
  n ← any_short
  k ← any_short
  give (three_shorts m n k)
operands S.Place = do
  p ← any_place
  give (place p)

-- a mark
abbrev pub mark : Format Mark
mark = do
  height ← any_byte
  tries ← any_byte
  rec ← any_byte
  give (record { height = height; tries = tries; rec = rec })

-- an instruction: its number, its mark and its operands
abbrev pub line : Format LineParts
line = do
  op ← byte 0 50
  mark ← mark
  operands ← operands (shape_of op)
  give (record { op = op; mark = mark; operands = operands })

-- an image
abbrev pub image : Format ImageParts
image = do
  magic ← magic
  function_count ← number w16 1 256
  main ← number w16 0 (function_count - 1)
  name_count ← any_short
  line_count ← number w32 function_count 262144
  names ← times name name_count
  functions ← functions function_count 0 0 line_count
  lines ← times line line_count
  give (record { main = main; names = names; functions = functions; lines = lines })
