use Rattle.kern_lexer.proofs.TextReads.{given-fault}
use Rattle.kern_lexer.proofs.Uniqueness.{fault-given}
use Rattle.kern_lexer.proofs.laws.faults_are_computed.Goals as goal

pub returns : goal.returns
returns c text fault = (fault-given text fault, given-fault text fault)
