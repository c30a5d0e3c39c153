use Rattle.kern_judgement.proofs.ExpressionsJudged.{one_type}
use Rattle.kern_judgement.proofs.laws.types_are_unique.Goals as goal

pub returns : goal.returns
returns c = one_type
