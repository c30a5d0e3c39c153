use Rattle.std.proofs.Common.{refl}
use Rattle.kern_judgement.proofs.ToldTypes.{told}
use Rattle.kern_judgement.proofs.laws.types_are_those_told.Goals as goal

pub returns : goal.returns
returns c = λ functions here names e t scope typed known callable. told functions here names scope known callable typed t refl
