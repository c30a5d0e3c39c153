use Rattle.kern_grammar.proofs.FirstFaults.{one_fault}
use Rattle.kern_grammar.proofs.laws.one_first_fault.Goals as goal

pub returns : goal.returns
returns c = one_fault
