use Rattle.kern_judgement.proofs.ToldFunctions.{functions_told}
use Rattle.kern_judgement.proofs.laws.earlier_functions_are_told.Goals as goal

pub returns : goal.returns
returns c = functions_told
