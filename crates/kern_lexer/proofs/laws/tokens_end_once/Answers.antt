use Rattle.kern_lexer.proofs.TokenLemmas.{text-once}
use Rattle.kern_lexer.proofs.Uniqueness.{tokens-given}
use Rattle.kern_lexer.proofs.laws.tokens_end_once.Goals as goal

pub returns : goal.returns
returns c text tokens has = text-once text tokens (tokens-given text tokens has)
