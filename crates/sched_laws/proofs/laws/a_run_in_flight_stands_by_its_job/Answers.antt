use Rattle.sched_laws.proofs.Standing.{flying-stand}
use Rattle.sched_laws.proofs.laws.a_run_in_flight_stands_by_its_job.Goals as goal

pub returns : goal.returns
returns c = flying-stand
