use Rattle.timeline_sem.proofs.UnitsTaken.{requests_take_units_of_all}
use Rattle.timeline_sem.proofs.laws.requests_take_units.Goals as goal

pub returns : goal.returns
returns c = requests_take_units_of_all
