use Rattle.sched_laws.proofs.Once.{few-left}
use Rattle.sched_laws.proofs.laws.at_most_1152_jobs_are_left.Goals as goal

pub returns : goal.returns
returns c = few-left
