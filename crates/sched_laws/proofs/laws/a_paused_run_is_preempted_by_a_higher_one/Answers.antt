use Rattle.sched_laws.proofs.Preempting.{preempts}
use Rattle.sched_laws.proofs.laws.a_paused_run_is_preempted_by_a_higher_one.Goals as goal

pub returns : goal.returns
returns c = preempts
