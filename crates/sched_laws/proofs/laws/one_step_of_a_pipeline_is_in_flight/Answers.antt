use Rattle.sched_laws.proofs.Rising.{one-step}
use Rattle.sched_laws.proofs.laws.one_step_of_a_pipeline_is_in_flight.Goals as goal

pub returns : goal.returns
returns c = one-step
