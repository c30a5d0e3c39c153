use Rattle.std.proofs.Common.{◌≡◌, ◌++◌, replicate}
use Rattle.kern_lexer.specs.Tokens.{marks_at}
use Rattle.kern_lexer.specs.declared.token.TokenKind.TheVariants.{Dedent}
use Rattle.kern_lexer.proofs.lexing.end_text.Given as goal

abbrev pub invariant-loop-closed : goal.invariant-loop-closed
invariant-loop-closed l = l.tokens.items ≡ l.fn.tokens.items ++ marks_at l.line l.at (replicate l._closed Dedent)
