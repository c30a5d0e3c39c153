use Rattle.kern_accepted.proofs.Kernels.{none-refused}
use Rattle.kern_accepted.proofs.laws.no_kernel_is_refused.Goals as goal

pub returns : goal.returns
returns c = none-refused
