use Rattle.timeline_sem.proofs.KeepsWhole.{requests_of_calls}
use Rattle.timeline_sem.proofs.laws.requests_are_only_added.Goals as goal

pub returns : goal.returns
returns c = requests_of_calls
