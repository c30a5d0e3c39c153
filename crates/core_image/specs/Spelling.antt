-- The bytes of code.
use Rattle.std.specs.Prelude.{ℕ, ◌+◌, List, [], ◌∷◌, ◌++◌, length, if◌then◌else◌}
use Rattle.std.specs.List.{flat_map}
use Rattle.std.specs.Int.{w16, w32, w64, to_le_bytes, cast_unsigned}
use Rattle.core_image.specs.Fields.{Bytes}
use Rattle.core_image.specs.Operands.{Operands, nothing, integer, one_byte, two_bytes}
use Rattle.core_image.specs.Operands.{short, two_shorts, three_shorts, place}
use Rattle.core_image.specs.Parts.{LineParts, ImageParts, parts_of}
use Rattle.core_isa.specs.declared.code.Code.{Code}
use Rattle.core_isa.specs.declared.code.CodeFunction.{CodeFunction}

-- the first four bytes of each image, `KIM1`
abbrev pub magic_bytes : Bytes
magic_bytes = 0x4b ∷ 0x49 ∷ 0x4d ∷ 0x31 ∷ []

-- a name: its length and its bytes
abbrev pub name_bytes : List ℕ → Bytes
name_bytes name = length name ∷ name

-- 1 where a function has a value, and 2 more where it is plain
abbrev pub flags_of : CodeFunction → ℕ
flags_of f = (if f.value then 1 else 0) + (if f.plain then 2 else 0)

-- a function: its first place, its parameters, its slots and its flags
abbrev pub function_bytes : CodeFunction → Bytes
function_bytes f = to_le_bytes w32 f.first ++ (f.params ∷ []) ++ to_le_bytes w16 f.slots ++ (flags_of f ∷ [])

-- operands, each number with its low byte first
abbrev pub operand_bytes : Operands → Bytes
operand_bytes nothing = []
operand_bytes (integer v) = to_le_bytes w64 (cast_unsigned w64 v)
operand_bytes (one_byte n) = n ∷ []
operand_bytes (two_bytes m n) = m ∷ n ∷ []
operand_bytes (short n) = to_le_bytes w16 n
operand_bytes (two_shorts m n) = to_le_bytes w16 m ++ to_le_bytes w16 n
operand_bytes (three_shorts m n k) = to_le_bytes w16 m ++ to_le_bytes w16 n ++ to_le_bytes w16 k
operand_bytes (place p) = to_le_bytes w32 p

-- an instruction: its number, its mark and its operands
abbrev pub line_bytes : LineParts → Bytes
line_bytes line = (line.op ∷ line.mark.height ∷ line.mark.tries ∷ line.mark.rec ∷ []) ++ operand_bytes line.operands

-- what stands before all else: the four bytes, and how many
-- functions, which one is main, how many names and instructions
abbrev pub head_bytes : (functions main names lines : ℕ) → Bytes
head_bytes functions main names lines =
    magic_bytes ++ to_le_bytes w16 functions ++ to_le_bytes w16 main ++ to_le_bytes w16 names ++ to_le_bytes w32 lines

-- the head, the names, the functions and the instructions
abbrev pub spelling : ImageParts → Bytes
spelling image =
    head_bytes (length image.functions) image.main (length image.names) (length image.lines)
    ++ flat_map name_bytes image.names ++ flat_map function_bytes image.functions ++ flat_map line_bytes image.lines

-- the image of some code
abbrev pub image_of : Code → Bytes
image_of code = spelling (parts_of code)
