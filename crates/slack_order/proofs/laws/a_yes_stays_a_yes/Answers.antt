use Rattle.slack_order.proofs.Programs.{stays-yes}
use Rattle.slack_order.proofs.laws.a_yes_stays_a_yes.Goals as goal

pub returns : goal.returns
returns c = stays-yes
