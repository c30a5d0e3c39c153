use Rattle.kern_judgement.proofs.StatementsFound.{found_block}
use Rattle.kern_judgement.proofs.StatementsJudged.{judged_block}
use Rattle.kern_judgement.proofs.laws.blocks_are_typed_as_judged.Goals as goal

pub returns : goal.returns
returns c = λ functions place names b after. (judged_block functions b place names after, found_block functions b place names after)
