-- What the code of a call needs where it is put.
use Rattle.std.specs.Prelude.{ℕ, ◌+◌, ◌<◌, ◌^◌}
use Rattle.kern_syntax.specs.Tree.{Bytes, Arguments, call, method}
use Rattle.core_isa.specs.declared.code.Mark.{Mark}
use Rattle.code_forms.specs.Setting.{Setting}
use Rattle.code_forms.specs.Sizes.{call_size, method_size}
use Rattle.code_ranges.specs.Ready.{ExpressionFits}

-- a call by name: its numbers have room, and there are places for it
pub record IsReadyCall (setting : Setting) (mark : Mark) (place : ℕ) (name : Bytes) (args : Arguments) : Type 0 where
  pub fits : ExpressionFits mark (call name args)
  pub places : place + call_size setting name args < 2 ^ 32

-- a call of a method
pub record IsReadyMethod (setting : Setting) (mark : Mark) (place : ℕ) (object name : Bytes) (args : Arguments) : Type 0 where
  pub fits : ExpressionFits mark (method object name args)
  pub places : place + method_size setting object name args < 2 ^ 32
