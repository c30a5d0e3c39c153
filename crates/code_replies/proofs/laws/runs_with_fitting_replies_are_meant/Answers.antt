use Rattle.code_replies.proofs.Meant.{runs_are_meant}
use Rattle.code_replies.proofs.laws.runs_with_fitting_replies_are_meant.Goals as goal

pub returns : goal.returns
returns c = runs_are_meant
