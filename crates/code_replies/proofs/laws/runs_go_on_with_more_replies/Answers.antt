use Rattle.code_replies.proofs.Runs.{replies_extend_runs}
use Rattle.code_replies.proofs.laws.runs_go_on_with_more_replies.Goals as goal

pub returns : goal.returns
returns c = replies_extend_runs
