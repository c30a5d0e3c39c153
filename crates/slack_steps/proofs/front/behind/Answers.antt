use Rattle.slack_steps.proofs.Leading.{tail}
use Rattle.slack_steps.proofs.front.behind.Goals as goal

pub returns : goal.returns
returns c = tail c.args.count c.args.lines.now
