use Rattle.sched_laws.proofs.Ends.{stay}
use Rattle.sched_laws.proofs.laws.a_run_keeps_what_it_was_submitted_with.Goals as goal

pub returns : goal.returns
returns c = stay
