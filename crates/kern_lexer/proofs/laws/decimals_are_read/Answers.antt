use Rattle.kern_lexer.proofs.DecimalLemmas.{decimal-is_read}
use Rattle.kern_lexer.proofs.laws.decimals_are_read.Goals as goal

pub returns : goal.returns
returns c = decimal-is_read
