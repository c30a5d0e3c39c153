use Rattle.sched_laws.proofs.Once.{reported-once}
use Rattle.sched_laws.proofs.laws.no_job_is_reported_twice.Goals as goal

pub returns : goal.returns
returns c = reported-once
