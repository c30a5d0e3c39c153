-- Steps from stamp to stamp: signed numbers as unsigned ones, and sums that wrap.
use Rattle.std.proofs.Common.{◌≡◌, ℕ, zero, suc, ◌+◌, ◌-◌, ◌*◌, ◌/◌, ◌%◌, ◌<◌, ◌^◌, ◌==◌, cond, ℤ, pos, negsuc, FitsSigned, w64, sym, ap, subst, ◌∙◌, arith}
use Rattle.std.specs.Int.{cast_signed, cast_unsigned, int_wrapping_add}
use Rattle.std.proofs.Math.Facts.{Fits-of_lt, Fits-of_z, sfits_to_z}
use Rattle.std.proofs.lemmas.Int.{of_z-to_z, to_z-of_z, fits_signed_from_abs}
use Rattle.recording_bytes.specs.Numbers.{distance, folded, unfolded}
use Rattle.recording_bytes.proofs.FewBytes.{nonzero-test}

-- the number with this rest and half
abbrev parts : ℕ → ℕ → ℤ
parts rest half = cond (rest == 0) (pos half) (negsuc half)

pub unfolded-folded : (d : ℤ) → unfolded (folded d) ≡ d
unfolded-folded (pos n) =
    let rest : (2 * n) % 2 ≡ 0 = omega arith in
    let half : (2 * n) / 2 ≡ n = omega arith in
    (λ j. parts (rest j) (half j))
unfolded-folded (negsuc n) =
    let rest : (2 * n + 1) % 2 ≡ 1 = omega arith in
    let half : (2 * n + 1) / 2 ≡ n = omega arith in
    (λ j. parts (rest j) (half j))

folded-parts : (n rest half : ℕ) → n ≡ 2 * half + rest → rest < 2 → folded (parts rest half) ≡ n
folded-parts n zero half is small = omega arith
folded-parts n (suc zero) half is small = omega arith
folded-parts n (suc (suc rest)) half is small = absurd (omega arith)

pub folded-unfolded : (n : ℕ) → folded (unfolded n) ≡ n
folded-unfolded n = folded-parts n (n % 2) (n / 2) (omega arith) (omega arith)

fits-parts : (rest half : ℕ) → half < 2 ^ 63 → FitsSigned w64 (parts rest half)
fits-parts zero half small = fits_signed_from_abs w64 (pos half) small
fits-parts (suc rest) half small =
    subst (λ b. FitsSigned w64 (cond b (pos half) (negsuc half))) (sym (nonzero-test (suc rest) (omega arith))) (record { sfits = small })

pub fits-unfolded : (n : ℕ) → n < 2 ^ 64 → FitsSigned w64 (unfolded n)
fits-unfolded n small = fits-parts (n % 2) (n / 2) (omega arith)

pub folded-below : (d : ℤ) → FitsSigned w64 d → folded d < 2 ^ 64
folded-below (pos n) fits = let small : n < 2 ^ 63 = fits.sfits in omega arith
folded-below (negsuc n) fits = let small : n < 2 ^ 63 = fits.sfits in omega arith

there-and-back : (before stamp : ℕ) → before < 2 ^ 64 → stamp < 2 ^ 64 → (before + (stamp + (2 ^ 64 - before)) % 2 ^ 64) % 2 ^ 64 ≡ stamp
there-and-back before stamp hb hs = omega arith

back-and-there : (before step : ℕ) → before < 2 ^ 64 → step < 2 ^ 64 → ((before + step) % 2 ^ 64 + (2 ^ 64 - before)) % 2 ^ 64 ≡ step
back-and-there before step hb hs = omega arith

wrapped : (n : ℕ) → n % 2 ^ 64 < 2 ^ 64
wrapped n = omega arith

below : (z : ℤ) → FitsSigned w64 z → cast_unsigned w64 z < 2 ^ 64
below z fits = (Fits-of_z fits).fits

-- the distance added to the stamp before gives the stamp
pub add-distance : (before stamp : ℤ) → FitsSigned w64 before → FitsSigned w64 stamp → int_wrapping_add w64 before (distance before stamp) ≡ stamp
add-distance before stamp hb hs =
    let bits : cast_unsigned w64 (distance before stamp) ≡ (cast_unsigned w64 stamp + (2 ^ 64 - cast_unsigned w64 before)) % 2 ^ 64 = of_z-to_z w64 _ (wrapped _) in
    ap (λ n. cast_signed w64 ((cast_unsigned w64 before + n) % 2 ^ 64)) bits
    ∙ ap (cast_signed w64) (there-and-back (cast_unsigned w64 before) (cast_unsigned w64 stamp) (below before hb) (below stamp hs))
    ∙ to_z-of_z w64 stamp hs

-- and the distance of such a sum is what was added
pub distance-add : (before step : ℤ) → FitsSigned w64 before → FitsSigned w64 step → distance before (int_wrapping_add w64 before step) ≡ step
distance-add before step hb hs =
    let bits : cast_unsigned w64 (int_wrapping_add w64 before step) ≡ (cast_unsigned w64 before + cast_unsigned w64 step) % 2 ^ 64 = of_z-to_z w64 _ (wrapped _) in
    ap (λ n. cast_signed w64 ((n + (2 ^ 64 - cast_unsigned w64 before)) % 2 ^ 64)) bits
    ∙ ap (cast_signed w64) (back-and-there (cast_unsigned w64 before) (cast_unsigned w64 step) (below before hb) (below step hs))
    ∙ to_z-of_z w64 step hs

pub fits-distance : (before stamp : ℤ) → FitsSigned w64 (distance before stamp)
fits-distance before stamp = sfits_to_z (Fits-of_lt (wrapped _))

pub fits-add : (before step : ℤ) → FitsSigned w64 (int_wrapping_add w64 before step)
fits-add before step = sfits_to_z (Fits-of_lt (wrapped _))
