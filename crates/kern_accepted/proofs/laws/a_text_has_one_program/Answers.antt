use Rattle.kern_accepted.proofs.Kernels.{one-program}
use Rattle.kern_accepted.proofs.laws.a_text_has_one_program.Goals as goal

pub returns : goal.returns
returns c = one-program
