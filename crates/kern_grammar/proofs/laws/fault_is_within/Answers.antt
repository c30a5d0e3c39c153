use Rattle.kern_grammar.proofs.FirstFaults.{within}
use Rattle.kern_grammar.proofs.laws.fault_is_within.Goals as goal

pub returns : goal.returns
returns c = within
