use Rattle.sched_laws.proofs.Over.{over-stays}
use Rattle.sched_laws.proofs.laws.what_is_over_stays_over.Goals as goal

pub returns : goal.returns
returns c = over-stays
