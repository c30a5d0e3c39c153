use Rattle.std.proofs.Common.{◌∙◌, ◌<◌, ◌≤◌, ◌+◌, ap, arith, length, reverse}
use Rattle.std.proofs.lemmas.Grind.{common_steps}
use Rattle.std.proofs.lemmas.List.{take_rest}
use Rattle.std.proofs.lemmas.Result.{err_from_is_err_and}
use Rattle.kern_lexer.specs.Steps.{words_after}
use Rattle.kern_lexer.specs.Words.{words_from}
use Rattle.kern_lexer.proofs.WordLemmas.{step-continues, step-ends, end-same, end-stays}
use Rattle.kern_lexer.proofs.PrintedLemmas.{space-first}
use Rattle.kern_lexer.proofs.words.read_words.Goals as goal

pub returns-in_err-len-clause-fault : goal.returns-in_err-len-clause-fault
returns-in_err-len-clause-fault c =
    let p = err_from_is_err_and c.from_residual.result c.from_residual.ensures.1 in
    let some : 0 < length c.loop-rest.rest.now = grind (arith, common_steps) in
    rw (p.1, p.2)
    (end-same _ c.loop-rest.invariant.same
    (step-ends c.loop-rest.tokens.items (reverse c.loop-rest.brackets.items) c.args.line c.loop-rest.at c.loop-rest.rest.now _ some c.in_err-len.ensures.fault))

pub loop-rest-preserved : goal.loop-rest-preserved
loop-rest-preserved c =
    let rest = c.loop-rest.rest.now in
    let len = c.in_ok-len.len in
    let within : len ≤ length rest = c.in_ok-len.ensures.within.1 in
    let some : 0 < length rest = omega (arith, c.in_ok-len.ensures.within.0, within) in
    record {
      same = ap (λ bytes. words_after c.read_front.new.tokens.items (reverse c.read_front.new.brackets.items) (words_from c.args.line (c.loop-rest.at + len) 0 bytes)) (take_rest rest len)
          ∙ step-continues c.loop-rest.tokens.items (reverse c.loop-rest.brackets.items) c.args.line c.loop-rest.at rest (len, (c.read_front.new.tokens.items, reverse c.read_front.new.brackets.items)) some c.in_ok-len.ensures.ok
          ∙ c.loop-rest.invariant.same;
      below = end-stays c.loop-rest.at len rest within c.loop-rest.invariant.below;
    }

-- behind a space the words are as before it
pub loop-rest-preserved-then-rest-eq32 : goal.loop-rest-preserved-then-rest-eq32
loop-rest-preserved-then-rest-eq32 c =
    let rest = c.loop-rest.rest.now in
    let some : 1 ≤ length rest = grind (arith, common_steps) in
    record {
      same = ap (λ bytes. words_after c.loop-rest.tokens.items (reverse c.loop-rest.brackets.items) (words_from c.args.line (c.loop-rest.at + 1) 0 bytes)) (take_rest rest 1)
          ∙ ap (words_after c.loop-rest.tokens.items (reverse c.loop-rest.brackets.items)) (space-first c.args.line c.loop-rest.at rest c.if-rest-eq32.true)
          ∙ c.loop-rest.invariant.same;
      below = end-stays c.loop-rest.at 1 rest some c.loop-rest.invariant.below;
    }
