use Rattle.core_isa.proofs.AskedWell.{asks_well}
use Rattle.core_isa.proofs.laws.marked_code_asks_well.Goals as goal

pub returns : goal.returns
returns c = asks_well
