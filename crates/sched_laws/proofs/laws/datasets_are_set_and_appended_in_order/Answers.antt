use Rattle.sched_laws.proofs.Changes.{datasets-made}
use Rattle.sched_laws.proofs.laws.datasets_are_set_and_appended_in_order.Goals as goal

pub returns : goal.returns
returns c = datasets-made
