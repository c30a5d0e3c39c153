-- What an image says of some code, in numbers.
use Rattle.std.specs.Prelude.{ℕ, List, map}
use Rattle.core_image.specs.Operands.{Operands, op_of, operands_of}
use Rattle.core_isa.specs.declared.code.Code.{Code}
use Rattle.core_isa.specs.declared.code.CodeFunction.{CodeFunction}
use Rattle.core_isa.specs.declared.code.CodeLine.{CodeLine}
use Rattle.core_isa.specs.declared.code.Mark.{Mark}

-- of an instruction: its number, its mark and its operands
pub record LineParts : Type 0 where
  pub op : ℕ
  pub mark : Mark
  pub operands : Operands

-- of the code: its main function, its names, functions and instructions
pub record ImageParts : Type 0 where
  pub main : ℕ
  pub names : List (List ℕ)
  pub functions : List CodeFunction
  pub lines : List LineParts

abbrev pub parts_of_line : CodeLine → LineParts
parts_of_line line = record { op = op_of line.instr; mark = line.mark; operands = operands_of line.instr }

abbrev pub parts_of : Code → ImageParts
parts_of code =
    record { main = code.main; names = code.names; functions = code.functions; lines = map parts_of_line code.lines }
