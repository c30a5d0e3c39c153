-- The loop, instruction by instruction.
use Rattle.std.specs.Prelude.{ℕ, List, [], ◌∷◌, pos, false}
use Rattle.core_isa.specs.declared.code.Code.{Code}
use Rattle.core_isa.specs.declared.code.CodeLine.{CodeLine}
use Rattle.core_isa.specs.declared.instr.Instr.{Instr}
use Rattle.core_isa.specs.declared.instr.Instr.TheVariants.{Const, Load, Store, Add, Mul, Wrap32}
use Rattle.core_isa.specs.declared.instr.Instr.TheVariants.{Lt, Jump, JumpZero, Turn, At, Return}

-- an instruction before which the frame has so many operands, and neither handlers nor a recording
abbrev pub line : ℕ → Instr → CodeLine
line height instr = record { instr = instr; mark = record { height = height; tries = 0; rec = 0 } }

-- slot 0 is a value from 1 on. In each of so many turns, which slot 1 counts, it is
-- multiplied, added to and wrapped to 32 bits. At the end it is put into the cursor
abbrev pub loop_lines : ℕ → List CodeLine
loop_lines turns =
    line 0 (Const (pos 1))
    ∷ line 1 (Store 0)
    ∷ line 0 Turn
    ∷ line 0 (Load 0)
    ∷ line 1 (Const (pos 1103515245))
    ∷ line 2 Mul
    ∷ line 1 (Const (pos 12345))
    ∷ line 2 Add
    ∷ line 1 Wrap32
    ∷ line 1 (Store 0)
    ∷ line 0 (Load 1)
    ∷ line 1 (Const (pos 1))
    ∷ line 2 Add
    ∷ line 1 (Store 1)
    ∷ line 0 (Load 1)
    ∷ line 1 (Const (pos turns))
    ∷ line 2 Lt
    ∷ line 1 (JumpZero 19)
    ∷ line 0 (Jump 2)
    ∷ line 0 (Load 0)
    ∷ line 1 At
    ∷ line 0 Return
    ∷ []

-- code of one function with these lines
abbrev pub loop_code : ℕ → Code
loop_code turns =
    record {
      main = 0;
      names = [];
      functions = record { first = 0; params = 0; slots = 2; value = false; plain = false } ∷ [];
      lines = loop_lines turns;
    }
