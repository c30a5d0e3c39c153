use Rattle.std.proofs.Common.{◌≡◌, ◌∙◌, ap, to_z, of_z}
use Rattle.std.specs.Int.{w32, w64, int_wrap}
use Rattle.std.proofs.lemmas.Int.{to_z-of_z, SFits-int_wrap}
use Rattle.rtio_types.specs.Integers.{low_bits}
use Rattle.word_arithmetic.proofs.Wrapping.{wrap_low, low_fits}
use Rattle.word_arithmetic.proofs.numbers.low_signed.Goals as goal

pub returns : goal.returns
returns c =
    let is : c.cast_signed.result ≡ int_wrap w32 c.args.a =
    c.cast_signed.ensures
    ∙ ap (to_z w32) c.low_word.ensures
    ∙ ap (λ z. to_z w32 (low_bits 32 z)) (to_z-of_z w64 c.args.a c.ranges.a)
    ∙ wrap_low c.args.a in
    ap (λ z. to_z w64 (of_z w64 (to_z w32 (of_z w32 z)))) is
    ∙ ap (λ z. to_z w64 (of_z w64 z)) (to_z-of_z w32 (int_wrap w32 c.args.a) (SFits-int_wrap w32 c.args.a))
    ∙ to_z-of_z w64 (int_wrap w32 c.args.a) (low_fits c.args.a)
