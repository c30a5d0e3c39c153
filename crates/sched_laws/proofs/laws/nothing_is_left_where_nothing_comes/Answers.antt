use Rattle.sched_laws.proofs.Ends.{over}
use Rattle.sched_laws.proofs.laws.nothing_is_left_where_nothing_comes.Goals as goal

pub returns : goal.returns
returns c = over
