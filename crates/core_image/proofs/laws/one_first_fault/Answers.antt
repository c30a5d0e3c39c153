use Rattle.core_image.proofs.Faults.{one_fault}
use Rattle.core_image.proofs.laws.one_first_fault.Goals as goal

pub returns : goal.returns
returns c = one_fault _
