use Rattle.lab_ties.proofs.Tied.{ties-grow}
use Rattle.lab_ties.proofs.laws.ties_grow.Goals as goal

pub returns : goal.returns
returns c = ties-grow
