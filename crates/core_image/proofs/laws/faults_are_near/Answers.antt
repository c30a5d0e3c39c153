use Rattle.core_image.proofs.Sizes.{fault_most}
use Rattle.core_image.proofs.laws.faults_are_near.Goals as goal

pub returns : goal.returns
returns c = fault_most
