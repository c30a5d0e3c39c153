-- The ranges of the fields of an image.
use Rattle.std.specs.Prelude.{ℕ, ℤ, pos, negsuc, ◌<◌, ◌≤◌, ◌^◌, List, [], ◌∷◌, Bool}
use Rattle.std.specs.Prelude.{true, ◌&&◌, ◌==◌, nat_lt, nat_le, IsTrue, length, map}
use Rattle.std.specs.List.{list_all}
use Rattle.core_image.specs.Operands.{Operands, nothing, integer, one_byte, two_bytes}
use Rattle.core_image.specs.Operands.{short, two_shorts, three_shorts, place, operands_of}
use Rattle.core_isa.specs.declared.code.Code.{Code}
use Rattle.core_isa.specs.declared.code.CodeFunction.{CodeFunction}
use Rattle.core_isa.specs.declared.code.CodeLine.{CodeLine}
use Rattle.core_isa.specs.declared.code.Mark.{Mark}
use Rattle.rtio_types.specs.Names.{is_name}

-- numbers rise strictly, from one that is greater than this
abbrev pub rises_above : ℕ → List ℕ → Bool
rises_above before [] = true
rises_above before (n ∷ more) = nat_lt before n && rises_above n more

-- numbers rise strictly from 0
abbrev pub rises_from_zero : List ℕ → Bool
rises_from_zero [] = true
rises_from_zero (n ∷ more) = (n == 0) && rises_above n more

-- a function in code of so many instructions begins in it, and has at most 8 parameters, for which it has slots
abbrev pub is_function : (lines : ℕ) → CodeFunction → Bool
is_function lines f =
    nat_lt f.first lines && (nat_le f.params 8 && (nat_le f.params f.slots && nat_lt f.slots (2 ^ 16)))

-- numbers of one and two bytes
abbrev pub is_byte : ℕ → Bool
is_byte n = nat_lt n (2 ^ 8)

abbrev pub is_short : ℕ → Bool
is_short n = nat_lt n (2 ^ 16)

-- a signed number of eight bytes
abbrev pub is_integer : ℤ → Bool
is_integer (pos n) = nat_lt n (2 ^ 63)
is_integer (negsuc n) = nat_lt n (2 ^ 63)

-- operands of their widths
abbrev pub are_operands : Operands → Bool
are_operands nothing = true
are_operands (integer v) = is_integer v
are_operands (one_byte n) = is_byte n
are_operands (two_bytes m n) = is_byte m && is_byte n
are_operands (short n) = is_short n
are_operands (two_shorts m n) = is_short m && is_short n
are_operands (three_shorts m n k) = is_short m && (is_short n && is_short k)
are_operands (place p) = nat_lt p (2 ^ 32)

-- a mark of three bytes
abbrev pub is_mark_of_bytes : Mark → Bool
is_mark_of_bytes mark = is_byte mark.height && (is_byte mark.tries && is_byte mark.rec)

-- an instruction and its mark
abbrev pub is_line : CodeLine → Bool
is_line line = is_mark_of_bytes line.mark && are_operands (operands_of line.instr)

-- each field of the code is in its range
pub record IsInRange (code : Code) : Type 0 where
  pub some_function : 1 ≤ length code.functions
  pub few_functions : length code.functions ≤ 256
  pub main : code.main < length code.functions
  pub few_names : length code.names < 2 ^ 16
  pub enough_lines : length code.functions ≤ length code.lines
  pub few_lines : length code.lines ≤ 262144
  pub names : IsTrue (list_all is_name code.names)
  pub rising : IsTrue (rises_from_zero (map (λ f. f.first) code.functions))
  pub functions : IsTrue (list_all (is_function (length code.lines)) code.functions)
  pub lines : IsTrue (list_all is_line code.lines)
