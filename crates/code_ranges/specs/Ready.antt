-- What the code of an expression needs where it is put.
use Rattle.std.specs.Prelude.{ℕ, ◌+◌, ◌<◌, ◌^◌, max}
use Rattle.kern_syntax.specs.Spellable.{IsSpellable, AreSpellable}
use Rattle.kern_syntax.specs.Tree.{Expression, Arguments}
use Rattle.core_isa.specs.declared.code.Mark.{Mark}
use Rattle.code_forms.specs.Setting.{Setting}
use Rattle.code_forms.specs.Sizes.{expression_size, effect_size, arguments_size}
use Rattle.code_ranges.specs.Heights.{expression_height, arguments_height, most_own}

-- its integers are those of tokens, and its marks are of bytes, at any place under this mark
pub record ExpressionFits (mark : Mark) (e : Expression) : Type 0 where
  pub spelled : IsSpellable e
  pub operands : max mark.height 1 + expression_height e < 255
  pub handlers : mark.tries + most_own < 255
  pub rec : mark.rec < 256

-- the same of a call's arguments
pub record ArgumentListFits (mark : Mark) (args : Arguments) : Type 0 where
  pub spelled : AreSpellable args
  pub operands : max mark.height 1 + arguments_height args < 255
  pub handlers : mark.tries + most_own < 255
  pub rec : mark.rec < 256

-- an expression can be put at a place: there are places of four bytes for it
pub record IsReady (setting : Setting) (mark : Mark) (place : ℕ) (e : Expression) : Type 0 where
  pub fits : ExpressionFits mark e
  pub places : place + expression_size setting e < 2 ^ 32

-- one whose value isn't wanted
pub record IsReadyAlone (setting : Setting) (mark : Mark) (place : ℕ) (e : Expression) : Type 0 where
  pub fits : ExpressionFits mark e
  pub places : place + effect_size setting e < 2 ^ 32

-- and a call's arguments
pub record AreReady (setting : Setting) (mark : Mark) (place : ℕ) (args : Arguments) : Type 0 where
  pub fits : ArgumentListFits mark args
  pub places : place + arguments_size setting args < 2 ^ 32
