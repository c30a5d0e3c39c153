use Rattle.kernel_places.proofs.Told.{ends_are_told}
use Rattle.kernel_places.proofs.laws.ends_are_told.Goals as goal

pub returns : goal.returns
returns c = ends_are_told
