use Rattle.kern_lexer.proofs.Uniqueness.{not-both}
use Rattle.kern_lexer.proofs.laws.never_both.Goals as goal

pub returns : goal.returns
returns c = not-both
