use Rattle.kern_grammar.proofs.ArgumentFaults.{one_tree}
use Rattle.kern_grammar.proofs.laws.one_expression.Goals as goal

pub returns : goal.returns
returns c = one_tree
