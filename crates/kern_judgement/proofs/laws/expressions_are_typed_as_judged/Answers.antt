use Rattle.kern_judgement.proofs.ExpressionsFound.{expression_found}
use Rattle.kern_judgement.proofs.ExpressionsJudged.{expression_judged}
use Rattle.kern_judgement.proofs.laws.expressions_are_typed_as_judged.Goals as goal

pub returns : goal.returns
returns c = λ functions place names e g. (expression_judged functions place names, expression_found functions place names e g)
