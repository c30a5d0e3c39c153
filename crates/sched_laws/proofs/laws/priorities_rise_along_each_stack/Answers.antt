use Rattle.sched_laws.proofs.Rising.{priorities-rise}
use Rattle.sched_laws.proofs.laws.priorities_rise_along_each_stack.Goals as goal

pub returns : goal.returns
returns c = priorities-rise
