use Rattle.timeline_sem.proofs.ExtendsWhole.{replies_extend_meanings as extending}
use Rattle.timeline_sem.proofs.laws.replies_extend_meanings.Goals as goal

pub returns : goal.returns
returns c = extending
