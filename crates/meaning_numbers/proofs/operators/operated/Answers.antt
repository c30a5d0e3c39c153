use Rattle.std.proofs.Common.{rules, ◌≡◌, ap, ◌∙◌, FitsSigned, Some, option_map}
use Rattle.std.specs.Int.{int_wrap, w64}
use Rattle.std.proofs.lemmas.Int.{to_z-of_z}
use Rattle.kern_calls.specs.Types.{bits_of, width_of}
use Rattle.timeline_sem.specs.Numbers.{exact_result}
use Rattle.meaning_numbers.proofs.Again.{wraps_again}
use Rattle.meaning_numbers.proofs.operators.operated.Goals as goal

pub returns-in-Some : goal.returns-in-Some
returns-in-Some c =
    let t = c.args.kind in
    let v = c.in-Some.whole in
    let fits : FitsSigned w64 v = search rules in
    let wrapped : FitsSigned w64 c.wrapped.result = search rules in
    let is : Some v ≡ option_map (int_wrap w64) (exact_result c.args.operator (bits_of t) c.args.a c.args.b) =
    c.in-Some.ensures
    ∙ (λ i. option_map (int_wrap w64) (exact_result c.args.operator (c.bits_of.ensures i) (to_z-of_z w64 c.args.a c.ranges.a i) (to_z-of_z w64 c.args.b c.ranges.b i))) in
    ap Some
    (to_z-of_z w64 c.wrapped.result wrapped
    ∙ c.wrapped.ensures
    ∙ ap (int_wrap (width_of t)) (to_z-of_z w64 v fits))
    ∙ wraps_again t (exact_result c.args.operator (bits_of t) c.args.a c.args.b) v is
