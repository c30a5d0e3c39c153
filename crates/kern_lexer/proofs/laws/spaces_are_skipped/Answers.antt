use Rattle.std.proofs.Common.{◌≡◌, ◌∙◌, ◌+◌, suc, ap, arith}
use Rattle.kern_lexer.specs.Words.{words_from}
use Rattle.kern_lexer.proofs.PrintedLemmas.{space-is_skipped}
use Rattle.kern_lexer.proofs.laws.spaces_are_skipped.Goals as goal

pub returns : goal.returns
returns c line at rest = let e : suc at ≡ at + 1 = omega arith in space-is_skipped line at rest ∙ ap (λ n. words_from line n 0 rest) e
