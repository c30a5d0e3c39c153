-- When a statement can be put.
use Rattle.std.specs.Prelude.{ℕ, ◌+◌, ◌<◌, ◌^◌}
use Rattle.kern_syntax.specs.Tree.{Statement}
use Rattle.code_forms.specs.Setting.{Setting}
use Rattle.code_forms.specs.Sizes.{statement_size}
use Rattle.code_forms.specs.StatementCode.{Inside}
use Rattle.code_ranges.specs.ReadyStatements.{HasSpace, StatementFits}

-- a statement can be put at a place: there is room round it, it fits, and its places are in range
pub record IsReadyStatement (setting : Setting) (inside : Inside) (place : ℕ) (s : Statement) : Type 0 where
  pub space : HasSpace inside.mark inside.free
  pub fits : StatementFits setting inside.mark inside.free s
  pub places : place + statement_size setting inside.mark.tries inside.loop.tries s < 2 ^ 31
