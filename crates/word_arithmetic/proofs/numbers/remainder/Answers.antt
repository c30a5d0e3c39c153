use Rattle.std.proofs.Common.{◌∙◌, sym}
use Rattle.std.specs.Int.{w64, int_wrap}
use Rattle.std.proofs.lemmas.Int.{to_z-of_z}
use Rattle.rtio_types.specs.Integers.{floor_quotient, nonzero}
use Rattle.word_arithmetic.proofs.Wrapping.{remainder_is}
use Rattle.word_arithmetic.proofs.numbers.remainder.Goals as goal

pub returns : goal.returns
returns c =
    remainder_is c.args.a c.args.b c.in_ok-whole.whole c.ranges.a c.ranges.b
    (sym c.in_ok-whole.was
    ∙ c.quotient.ensures
    ∙ (λ i. nonzero (to_z-of_z w64 c.args.b c.ranges.b i) (int_wrap w64 (floor_quotient (to_z-of_z w64 c.args.a c.ranges.a i) (to_z-of_z w64 c.args.b c.ranges.b i)))))
