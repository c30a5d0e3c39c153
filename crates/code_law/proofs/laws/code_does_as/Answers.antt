use Rattle.code_law.proofs.Whole.{does_as}
use Rattle.code_law.proofs.laws.code_does_as.Goals as goal

pub returns : goal.returns
returns c = does_as
