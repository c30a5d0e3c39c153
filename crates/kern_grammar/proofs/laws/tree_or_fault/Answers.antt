use Rattle.kern_grammar.proofs.FirstFaults.{no_fault}
use Rattle.kern_grammar.proofs.laws.tree_or_fault.Goals as goal

pub returns : goal.returns
returns c = no_fault
