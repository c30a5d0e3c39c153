use Rattle.std.proofs.Common.{rules, ◌∙◌, ap, arith, FitsSigned, to_z, of_z, Some}
use Rattle.std.specs.Prelude.{pos, ◌<ℤ◌, ◌≤ℤ◌}
use Rattle.std.specs.Int.{w64}
use Rattle.std.specs.Int.RustNames.{int_div}
use Rattle.std.proofs.lemmas.Int.{ints, to_z-of_z}
use Rattle.word_arithmetic.proofs.Wrapping.{floor_wraps, below_zero}
use Rattle.word_arithmetic.proofs.numbers.quotient.Goals as goal

pub returns-else-a-gt0 : goal.returns-else-a-gt0
returns-else-a-gt0 c =
    let fits : FitsSigned w64 c.wrapping_div.result = search rules in
    let below : c.args.b <ℤ pos 0 = omega (arith, ints) in
    let low : c.args.a ≤ℤ pos 0 = omega (arith, ints) in
    ap Some
    (to_z-of_z w64 c.wrapping_div.result fits
    ∙ c.wrapping_div.ensures
    ∙ (λ i. to_z w64 (of_z w64 (int_div (to_z-of_z w64 c.args.a c.ranges.a i) (to_z-of_z w64 c.args.b c.ranges.b i))))
    ∙ floor_wraps c.args.a c.args.b c.ranges.a low below)
    ∙ below_zero c.args.b _ below
