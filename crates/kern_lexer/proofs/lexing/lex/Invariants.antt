use Rattle.std.proofs.Common.{◌≡◌, ◌+◌, ◌≤◌, length}
use Rattle.kern_lexer.specs.Lines.{lines_of}
use Rattle.kern_lexer.specs.Steps.{left_of, text_after}
use Rattle.kern_lexer.specs.Tokens.{tokens_from, tokens_of}
use Rattle.kern_lexer.proofs.lexing.lex.Given as goal

-- the tokens so far and those of the lines that are left are the tokens of the text
abbrev pub invariant-loop-len : goal.invariant-loop-len
invariant-loop-len l = record {
  same : text_after l.tokens.items (tokens_from (left_of l.layout) l.line l.at (lines_of l.rest)) ≡ tokens_of l.bytes;
  place : l.at + length l.rest ≡ length l.bytes;
  line : l.line ≤ l.at + 1;
}

abbrev pub decreases-loop-len : goal.decreases-loop-len
decreases-loop-len l = length l.rest
