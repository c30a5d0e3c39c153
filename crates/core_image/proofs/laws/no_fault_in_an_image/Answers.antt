use Rattle.core_image.proofs.Images.{image_has_no_fault}
use Rattle.core_image.proofs.laws.no_fault_in_an_image.Goals as goal

pub returns : goal.returns
returns c = image_has_no_fault
