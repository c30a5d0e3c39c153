use Rattle.lab_ties.proofs.Kerneled.{kernels-are-steps}
use Rattle.lab_ties.proofs.laws.kernels_are_steps.Goals as goal

pub returns : goal.returns
returns c = kernels-are-steps
