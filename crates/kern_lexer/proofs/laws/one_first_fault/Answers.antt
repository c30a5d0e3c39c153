use Rattle.kern_lexer.proofs.Uniqueness.{one-fault}
use Rattle.kern_lexer.proofs.laws.one_first_fault.Goals as goal

pub returns : goal.returns
returns c = one-fault
