use Rattle.sched_laws.proofs.Holding.{fly-until-reported}
use Rattle.sched_laws.proofs.laws.a_job_is_in_flight_until_it_is_reported.Goals as goal

pub returns : goal.returns
returns c = fly-until-reported
