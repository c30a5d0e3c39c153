use Rattle.sched_laws.proofs.Paused.{paused-wait}
use Rattle.sched_laws.proofs.laws.a_paused_run_waits_for_higher_ones.Goals as goal

pub returns : goal.returns
returns c = paused-wait
