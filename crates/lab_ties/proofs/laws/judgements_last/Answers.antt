use Rattle.lab_ties.proofs.Lasting.{judgements-last}
use Rattle.lab_ties.proofs.laws.judgements_last.Goals as goal

pub returns : goal.returns
returns c = judgements-last
