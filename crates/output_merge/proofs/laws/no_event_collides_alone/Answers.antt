use Rattle.output_merge.proofs.Alone.{collisions-have-company}
use Rattle.output_merge.proofs.laws.no_event_collides_alone.Goals as goal

pub returns : goal.returns
returns c = collisions-have-company
