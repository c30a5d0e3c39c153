use Rattle.core_image.proofs.Images.{image_most}
use Rattle.core_image.proofs.laws.images_are_small.Goals as goal

pub returns : goal.returns
returns c = image_most
