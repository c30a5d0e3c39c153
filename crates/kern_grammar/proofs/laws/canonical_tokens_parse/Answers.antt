use Rattle.kern_grammar.proofs.CanonicalTrees.{canonical_parses}
use Rattle.kern_grammar.proofs.laws.canonical_tokens_parse.Goals as goal

pub returns : goal.returns
returns c = canonical_parses
