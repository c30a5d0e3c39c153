use Rattle.rtio_input.proofs.Undecided.{undecided-next}
use Rattle.rtio_input.proofs.laws.a_decided_edge_stays_decided.Goals as goal

pub returns : goal.returns
returns c = undecided-next
