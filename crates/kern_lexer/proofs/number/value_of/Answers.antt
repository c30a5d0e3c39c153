use Rattle.std.proofs.Common.{◌≡◌, ◌∙◌, ◌*◌, ◌+◌, None, get_or, refl, sym, arith}
use Rattle.kern_lexer.specs.Numbers.{digit_value, within_limit}
use Rattle.kern_lexer.proofs.NumberLemmas.{past_limit}
use Rattle.kern_lexer.proofs.number.value_of.Goals as goal

pub returns-in_err-value : goal.returns-in_err-value
returns-in_err-value c =
    let none : within_limit (c.args.base * c.loop-b.value + digit_value (get_or c.args.digits.now c.loop-b.b-index 0)) ≡ None =
    sym c.one_more_digit.ensures
    ∙ c.in_err-value.was in
    rw c.from_residual.ensures
    (sym (past_limit c.args.base c.loop-b.value c.args.digits.now c.loop-b.b-index _ c.requires (omega arith) refl c.if-b-ne95.true none c.loop-b.invariant.same))
