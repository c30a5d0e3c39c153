use Rattle.core_image.proofs.Images.{image_or_not}
use Rattle.core_image.proofs.laws.image_or_fault.Goals as goal

pub returns : goal.returns
returns c = image_or_not
