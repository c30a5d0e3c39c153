use Rattle.sched_laws.proofs.Holding.{takers-report}
use Rattle.sched_laws.proofs.laws.a_job_is_reported_by_who_took_it.Goals as goal

pub returns : goal.returns
returns c = takers-report
