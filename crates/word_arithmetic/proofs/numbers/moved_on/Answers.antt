use Rattle.std.proofs.Common.{rules}
use Rattle.std.proofs.lemmas.Int.{wraps}
use Rattle.word_arithmetic.proofs.numbers.moved_on.Goals as goal

pub returns : goal.returns
returns c = search (rules, wraps)
