use Rattle.sched_laws.proofs.Flights.{one-flight}
use Rattle.sched_laws.proofs.laws.one_job_of_a_run_is_in_flight.Goals as goal

pub returns : goal.returns
returns c = one-flight
