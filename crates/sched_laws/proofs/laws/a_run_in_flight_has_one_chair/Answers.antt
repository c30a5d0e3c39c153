use Rattle.sched_laws.proofs.Flights.{one-chair}
use Rattle.sched_laws.proofs.laws.a_run_in_flight_has_one_chair.Goals as goal

pub returns : goal.returns
returns c = one-chair
