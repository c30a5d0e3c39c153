use Rattle.sched_laws.proofs.Flights.{flights-follow}
use Rattle.sched_laws.proofs.laws.a_job_taken_flies_until_it_lands.Goals as goal

pub returns : goal.returns
returns c = flights-follow
