use Rattle.kern_lexer.proofs.CountLemmas.{text-count}
use Rattle.kern_lexer.proofs.Uniqueness.{tokens-given}
use Rattle.kern_lexer.proofs.laws.two_tokens_a_byte.Goals as goal

pub returns : goal.returns
returns c text tokens has = text-count text tokens (tokens-given text tokens has)
