use Rattle.std.proofs.Common.{rules, ◌≡◌, ◌∙◌, ◌<◌, ◌*◌, ◌%◌, ◌^◌, ap, arith, ⊎_elim, FitsSigned, to_z, of_z}
use Rattle.std.specs.Int.{w64}
use Rattle.std.proofs.lemmas.Int.{to_z-of_z}
use Rattle.std.proofs.Math.Nat.{mod-eq_of_lt}
use Rattle.rtio_types.specs.Integers.{shift_distance}
use Rattle.word_arithmetic.proofs.Wrapping.{shl_wraps, shift_within}
use Rattle.word_arithmetic.proofs.numbers.shifted_left.Goals as goal

pub returns : goal.returns
returns c =
    let fits : FitsSigned w64 c.wrapping_shl.result = search rules in
    let within : shift_distance c.args.width c.args.amount < 64 = ⊎_elim (λ e. shift_within _ c.args.amount (omega arith) (omega arith)) (λ e. shift_within _ c.args.amount (omega arith) (omega arith)) c.requires in
    let far : c.distance.result ≡ shift_distance c.args.width c.args.amount = c.distance.ensures ∙ ap (shift_distance c.args.width) (to_z-of_z w64 c.args.amount c.ranges.amount) in
    let whole : c.distance.result % 64 ≡ shift_distance c.args.width c.args.amount = ap (λ k. k % 64) far ∙ mod-eq_of_lt within in
    to_z-of_z w64 c.wrapping_shl.result fits
    ∙ c.wrapping_shl.ensures
    ∙ (λ i. to_z w64 (of_z w64 (to_z-of_z w64 c.args.a c.ranges.a i) * 2 ^ whole i % 2 ^ 64))
    ∙ shl_wraps c.args.a (shift_distance c.args.width c.args.amount) c.ranges.a within
