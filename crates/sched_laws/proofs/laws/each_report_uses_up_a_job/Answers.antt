use Rattle.sched_laws.proofs.Once.{use-up}
use Rattle.sched_laws.proofs.laws.each_report_uses_up_a_job.Goals as goal

pub returns : goal.returns
returns c = use-up
