use Rattle.kern_lexer.proofs.TextReads.{given-tokens}
use Rattle.kern_lexer.proofs.Uniqueness.{tokens-given}
use Rattle.kern_lexer.proofs.laws.tokens_are_computed.Goals as goal

pub returns : goal.returns
returns c text tokens = (tokens-given text tokens, given-tokens text tokens)
