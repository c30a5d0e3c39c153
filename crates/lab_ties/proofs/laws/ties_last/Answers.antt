use Rattle.lab_ties.proofs.Lasting.{ties-last}
use Rattle.lab_ties.proofs.laws.ties_last.Goals as goal

pub returns : goal.returns
returns c = ties-last
