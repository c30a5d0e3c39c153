use Rattle.kern_grammar.proofs.ProgramReads
use Rattle.kern_grammar.proofs.laws.one_tree.Goals as goal

pub returns : goal.returns
returns c = ProgramReads.one_tree
