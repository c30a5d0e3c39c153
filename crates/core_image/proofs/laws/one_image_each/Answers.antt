use Rattle.core_image.proofs.Images.{one_code}
use Rattle.core_image.proofs.laws.one_image_each.Goals as goal

pub returns : goal.returns
returns c = one_code
