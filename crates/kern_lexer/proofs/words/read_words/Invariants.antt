use Rattle.std.proofs.Common.{◌≡◌, ◌+◌, ◌<◌, ◌^◌, length, reverse}
use Rattle.kern_lexer.specs.Steps.{words_after}
use Rattle.kern_lexer.specs.Words.{words_from}
use Rattle.kern_lexer.proofs.words.read_words.Given as goal

-- the tokens so far and the words of what is left are the words of the line
abbrev pub invariant-loop-rest : goal.invariant-loop-rest
invariant-loop-rest l = record {
  same : words_after l.tokens.items (reverse l.brackets.items) (words_from l.line l.at 0 l.rest) ≡ words_after l.fn.tokens.items (reverse l.fn.brackets.items) (words_from l.line l.start 0 l.code);
  below : l.at + length l.rest < 2 ^ 32;
}

abbrev pub decreases-loop-rest : goal.decreases-loop-rest
decreases-loop-rest l = length l.rest
