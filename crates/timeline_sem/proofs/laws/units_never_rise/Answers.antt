use Rattle.timeline_sem.proofs.KeepsWhole.{units_of_all}
use Rattle.timeline_sem.proofs.laws.units_never_rise.Goals as goal

pub returns : goal.returns
returns c = units_of_all
