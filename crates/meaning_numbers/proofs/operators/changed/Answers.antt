use Rattle.std.proofs.Common.{rules, ◌≡◌, ap, sym, ◌∙◌, FitsSigned}
use Rattle.std.specs.Prelude.{neg_ℤ}
use Rattle.std.specs.Int.{int_wrap, int_wrapping_neg, w64}
use Rattle.std.proofs.lemmas.Int.{to_z-of_z, wrapping_neg_is}
use Rattle.kern_calls.specs.Types.{width_of}
use Rattle.timeline_sem.specs.Numbers.{unary_result}
use Rattle.meaning_numbers.proofs.Again.{wraps_at}
use Rattle.meaning_numbers.proofs.operators.changed.Goals as goal

pub returns-in-Negate : goal.returns-in-Negate
returns-in-Negate c =
    let t = c.args.kind in
    let negated : c.wrapping_neg.result ≡ int_wrap w64 (neg_ℤ c.args.a) =
    c.wrapping_neg.ensures
    ∙ ap (int_wrapping_neg w64) (to_z-of_z w64 c.args.a c.ranges.a)
    ∙ wrapping_neg_is w64 c.args.a c.ranges.a in
    let fits : FitsSigned w64 c.wrapping_neg.result = search rules in
    let whole : FitsSigned w64 c.wrapped.result = search rules in
    to_z-of_z w64 c.wrapped.result whole
    ∙ c.wrapped.ensures
    ∙ ap (int_wrap (width_of t)) (to_z-of_z w64 c.wrapping_neg.result fits)
    ∙ ap (int_wrap (width_of t)) negated
    ∙ wraps_at t (neg_ℤ c.args.a)
    ∙ ap (λ op. int_wrap (width_of t) (unary_result op c.args.a)) (sym c.in-Negate.is)
