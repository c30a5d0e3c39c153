use Rattle.slack_law.proofs.Promise.{never-underflows}
use Rattle.slack_law.proofs.laws.a_yes_means_no_underflow.Goals as goal

pub returns : goal.returns
returns c = never-underflows
