-- Which marks bytes hold.
use Rattle.std.specs.Prelude.{ℕ, ◌+◌, ◌<◌, max}
use Rattle.core_isa.specs.declared.code.Mark.{Mark}

-- bytes hold the marks of so many instructions one after another, from this mark on: each leaves at most one operand
-- more, but for a `Dup` where there is none, which leaves two, and adds at most one handler
pub record HasRoom (mark : Mark) (instrs : ℕ) : Type 0 where
  pub operands : max mark.height 1 + instrs < 255
  pub handlers : mark.tries + instrs < 255
  pub rec : mark.rec < 256
