use Rattle.rtio_input.proofs.Waiting.{stands-later}
use Rattle.rtio_input.proofs.laws.no_edge_no_change.Goals as goal

pub returns : goal.returns
returns c = stands-later
