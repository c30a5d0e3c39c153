use Rattle.std.proofs.Common.{◌≡◌, ◌∙◌, ◌<◌, ◌-◌, ◌++◌, suc, ap, arith, length, reverse, replicate, vec_len}
use Rattle.kern_lexer.specs.Margins.{top_of}
use Rattle.kern_lexer.specs.Tokens.{marks_at}
use Rattle.kern_lexer.specs.declared.token.TokenKind.TheVariants.{Dedent}
use Rattle.kern_lexer.proofs.MarginLemmas.{top-open, closes-popped, marks-one_more}
use Rattle.kern_lexer.proofs.margin.close_widths.Goals as goal

-- one width is closed, and has its Dedent
pub loop-widths-preserved : goal.loop-widths-preserved
loop-widths-preserved c =
    let was = c.loop-widths.widths.items in
    let now = c.pop.new.self.items in
    let above : c.args.width < top_of (reverse was) =
    omega (arith, c.loop-widths-test.true, c.top_of.ensures, ap (λ ws. top_of (reverse ws)) c.deref.ensures.value) in
    let some : 0 < vec_len c.loop-widths.widths =
    omega (arith, top-open c.args.width was above, c.deref.ensures.len, ap length c.deref.ensures.value) in
    let closed = closes-popped c.args.width _ was now c.pop.result c.pop.ensures.items (c.pop.ensures.value 0 some) above in
    let count : length was ≡ suc (length now) = omega (arith, closed.1) in
    record {
      same = closed.0 ∙ c.loop-widths.invariant.same;
      fewer = omega (arith, count, c.loop-widths.invariant.fewer);
      marked = marks-one_more c.args.line c.args.at (length c.args.widths.now.items) (length now) c.args.tokens.now.items c.loop-widths.tokens.items c.push_token.new.tokens.items
          (c.loop-widths.invariant.marked ∙ ap (λ n. c.args.tokens.now.items ++ marks_at c.args.line c.args.at (replicate (length c.args.widths.now.items - n) Dedent)) count)
          c.in_ok-push_token.ensures
          (omega (arith, count, c.loop-widths.invariant.fewer));
    }
