use Rattle.kern_lexer.proofs.PrintedLemmas.{spelled-is_read}
use Rattle.kern_lexer.proofs.laws.spellings_are_read.Goals as goal

pub returns : goal.returns
returns c = spelled-is_read
