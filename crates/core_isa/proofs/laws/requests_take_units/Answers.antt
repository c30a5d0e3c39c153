use Rattle.core_isa.proofs.UnitsTaken.{requests_take_units as proof}
use Rattle.core_isa.proofs.laws.requests_take_units.Goals as goal

pub returns : goal.returns
returns c = proof
