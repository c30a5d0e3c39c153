use Rattle.sched_laws.proofs.Ends.{few}
use Rattle.sched_laws.proofs.laws.there_are_at_most_64_runs.Goals as goal

pub returns : goal.returns
returns c = few
