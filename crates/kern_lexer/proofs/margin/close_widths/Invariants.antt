use Rattle.std.proofs.Common.{◌≡◌, ◌-◌, ◌≤◌, ◌++◌, length, replicate, reverse}
use Rattle.kern_lexer.specs.Margins.{closed_down_to}
use Rattle.kern_lexer.specs.Tokens.{marks_at}
use Rattle.kern_lexer.specs.declared.token.TokenKind.TheVariants.{Dedent}
use Rattle.kern_lexer.proofs.margin.close_widths.Given as goal

-- those closed so far have each a Dedent, and closing goes on from what is left
abbrev pub invariant-loop-widths : goal.invariant-loop-widths
invariant-loop-widths l = record {
  same : closed_down_to l.width (reverse l.widths.items) ≡ closed_down_to l.width (reverse l.fn.widths.items);
  fewer : length l.widths.items ≤ length l.fn.widths.items;
  marked : l.tokens.items ≡ l.fn.tokens.items ++ marks_at l.line l.at (replicate (length l.fn.widths.items - length l.widths.items) Dedent);
}

abbrev pub decreases-loop-widths : goal.decreases-loop-widths
decreases-loop-widths l = length l.widths.items
