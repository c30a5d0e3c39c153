-- What is left of a number in its type's bits.
use Rattle.std.proofs.Common.{◌≡◌, ℕ, zero, suc, ◌+◌, ◌-◌, ◌*◌, ◌/◌, ◌%◌, ◌^◌, ◌<◌, ◌≤◌, refl, sym, ◌∙◌, ap, arith, FitsSigned, to_z, of_z}
use Rattle.std.specs.Prelude.{ℤ, pos, negsuc, ◌-ℤ◌, ◌*ℤ◌, ◌<ℤ◌, ◌≤ℤ◌, neg_ℤ, unsigned_abs, Some}
use Rattle.std.specs.Int.{w32, w64, int_wrap, int_rem_euclid}
use Rattle.std.specs.Int.RustNames.{int_div}
use Rattle.std.proofs.lemmas.Int.{ints, to_z-of_z, int_wrap-mul_right, int_wrap-sub_right, wrapping_mul-bits, wrapping_sub-bits, wrapping_mul_is, SFits-int_wrap}
use Rattle.std.proofs.lemmas.Nat.{mod_below, pow_below}
use Rattle.std.proofs.Math.Nat.{mod-eq_of_lt, zero-div, div-le_self}
use Rattle.rtio_types.specs.Integers.{floor_quotient, floor_remainder, low_bits, nonzero, shift_distance}

-- what is left of a natural number below 2 to the power of 64
pub wrap_natural : (n : ℕ) → n < 2 ^ 64 → to_z w64 n ≡ int_wrap w64 (pos n)
unfolding int_wrap
wrap_natural n small = ap (to_z w64) (sym (mod-eq_of_lt small))

-- what is left in 32 bits is the low bits, signed
pub wrap_low : (z : ℤ) → to_z w32 (low_bits 32 z) ≡ int_wrap w32 z
unfolding int_wrap
wrap_low z = refl

-- and fits 64 bits
pub low_fits : (z : ℤ) → FitsSigned w64 (int_wrap w32 z)
low_fits z = record { sfits = omega (arith, ints, (SFits-int_wrap w32 z).sfits) }

-- a remainder is below the divisor
pub rem_euclid_below : (z : ℤ) (n : ℕ) → 0 < n → unsigned_abs (int_rem_euclid z (pos n)) < n
rem_euclid_below (pos a) n some = mod_below a n some
rem_euclid_below (negsuc a) n some = omega (arith, mod_below a n some)

-- a shift to the left multiplies
pub shl_wraps : (a : ℤ) (k : ℕ) → FitsSigned w64 a → k < 64 → to_z w64 ((of_z w64 a * 2 ^ k) % 2 ^ 64) ≡ int_wrap w64 (a *ℤ pos (2 ^ k))
shl_wraps a k fits within =
    let small : 2 ^ k < 2 ^ 64 = pow_below k 64 within in
    wrapping_mul-bits w64 (of_z w64 a) (2 ^ k) (omega (arith, ints, fits)) small
    ∙ ap (λ x. int_wrap w64 (x *ℤ to_z w64 (2 ^ k))) (to_z-of_z w64 a fits)
    ∙ ap (λ x. int_wrap w64 (a *ℤ x)) (wrap_natural (2 ^ k) small)
    ∙ int_wrap-mul_right w64 a (pos (2 ^ k))

-- the quotient of two numbers that aren't positive wraps where it is 2 to the power of 63
pub floor_wraps : (a b : ℤ) → FitsSigned w64 a → a ≤ℤ pos 0 → b <ℤ pos 0 → to_z w64 (of_z w64 (int_div a b)) ≡ int_wrap w64 (floor_quotient a b)
floor_wraps (pos zero) (negsuc b) fits low below = ap (λ n. to_z w64 (of_z w64 (neg_ℤ (pos n)))) (zero-div (suc b)) ∙ wrap_natural 0 (omega arith) ∙ ap (λ n. int_wrap w64 (pos n)) (sym (zero-div (suc b)))
floor_wraps (pos (suc a)) (negsuc b) fits low below = absurd (omega (arith, ints))
floor_wraps (negsuc a) (negsuc b) fits low below = wrap_natural (suc a / suc b) (omega (arith, fits.sfits, div-le_self (suc a) (suc b)))
floor_wraps a (pos b) fits low below = absurd (omega (arith, ints))

-- the number that a product with what is left of f leaves of another
remainder_wraps : (a b f : ℤ) → FitsSigned w64 a → FitsSigned w64 b → to_z w64 ((of_z w64 a + (2 ^ 64 - of_z w64 b * of_z w64 (int_wrap w64 f) % 2 ^ 64)) % 2 ^ 64) ≡ int_wrap w64 (a -ℤ (b *ℤ f))
remainder_wraps a b f fits_a fits_b =
    wrapping_sub-bits w64 (of_z w64 a) (of_z w64 b * of_z w64 (int_wrap w64 f) % 2 ^ 64) (omega (arith, ints, fits_a)) (mod_below _ _ (omega arith))
    ∙ (λ i. int_wrap w64 (to_z-of_z w64 a fits_a i -ℤ wrapping_mul_is w64 b (int_wrap w64 f) fits_b (SFits-int_wrap w64 f) i))
    ∙ ap (λ x. int_wrap w64 (a -ℤ x)) (int_wrap-mul_right w64 b f)
    ∙ int_wrap-sub_right w64 a (b *ℤ f)

-- the remainder by the quotient that is left
pub remainder_is : (a b q : ℤ) → FitsSigned w64 a → FitsSigned w64 b → Some q ≡ nonzero b (int_wrap w64 (floor_quotient a b)) → Some (to_z w64 ((of_z w64 a + (2 ^ 64 - of_z w64 b * of_z w64 q % 2 ^ 64)) % 2 ^ 64)) ≡ nonzero b (int_wrap w64 (floor_remainder a b))
remainder_is a b q fits_a fits_b = by b fits_b
  where
    there : (d : ℤ) → FitsSigned w64 d → q ≡ int_wrap w64 (floor_quotient a d) → Some (to_z w64 ((of_z w64 a + (2 ^ 64 - of_z w64 d * of_z w64 q % 2 ^ 64)) % 2 ^ 64)) ≡ Some (int_wrap w64 (floor_remainder a d))
    there d fits is =
        ap (λ x. Some (to_z w64 ((of_z w64 a + (2 ^ 64 - of_z w64 d * of_z w64 x % 2 ^ 64)) % 2 ^ 64))) is
        ∙ ap Some (remainder_wraps a d (floor_quotient a d) fits_a fits)

    by : (d : ℤ) → FitsSigned w64 d → Some q ≡ nonzero d (int_wrap w64 (floor_quotient a d)) → Some (to_z w64 ((of_z w64 a + (2 ^ 64 - of_z w64 d * of_z w64 q % 2 ^ 64)) % 2 ^ 64)) ≡ nonzero d (int_wrap w64 (floor_remainder a d))
    by (pos zero) fits is = cc
    by (pos (suc n)) fits is = there (pos (suc n)) fits cc
    by (negsuc n) fits is = there (negsuc n) fits cc

-- a negative divisor isn't 0
pub below_zero : (b v : ℤ) → b <ℤ pos 0 → Some v ≡ nonzero b v
below_zero (pos b) v below = absurd (omega (arith, ints))
below_zero (negsuc b) v below = refl

-- a shift stays within 64 bits
pub shift_within : (width : ℕ) (amount : ℤ) → 0 < width → width ≤ 64 → shift_distance width amount < 64
shift_within width amount some within = omega (arith, rem_euclid_below amount width some)
