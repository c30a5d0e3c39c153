use Rattle.code_replies.proofs.Together.{together}
use Rattle.code_replies.proofs.laws.steps_go_on.Goals as goal

pub returns : goal.returns
returns c = together
