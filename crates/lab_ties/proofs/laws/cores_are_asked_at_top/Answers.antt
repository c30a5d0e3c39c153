use Rattle.lab_ties.proofs.AtTop.{asked-at-top}
use Rattle.lab_ties.proofs.laws.cores_are_asked_at_top.Goals as goal

pub returns : goal.returns
returns c = asked-at-top
