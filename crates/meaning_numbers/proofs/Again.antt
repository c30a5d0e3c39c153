-- To wrap twice is to wrap once.
use Rattle.std.proofs.Common.{◌≡◌, ℕ, Option, Some, None, option_map, ◌+◌, ◌-◌, ◌*◌, ◌/◌, ◌%◌, ◌^◌, ◌<◌, refl, sym, ◌∙◌, ap, arith, FitsSigned, to_z, of_z}
use Rattle.std.specs.Prelude.{ℤ, pos, negsuc, unsigned_abs}
use Rattle.std.specs.Int.{w32, w64, int_wrap, int_rem_euclid}
use Rattle.std.proofs.lemmas.Int.{ints, SFits-int_wrap, of_z-to_z, int_wrap_fits}
use Rattle.std.proofs.lemmas.Nat.{mod-pow-add, mod_low, mod_below, div-add-mod'}
use Rattle.kern_calls.specs.declared.types.ValueType.{ValueType}
use Rattle.kern_calls.specs.declared.types.ValueType.TheVariants as V
use Rattle.kern_calls.specs.Types.{width_of}

-- what is left of a number in 32 bits, and in 64
abbrev low32 : ℤ → ℕ
low32 z = unsigned_abs (int_rem_euclid z (pos (2 ^ 32)))

abbrev low64 : ℤ → ℕ
low64 z = unsigned_abs (int_rem_euclid z (pos (2 ^ 64)))

mod_twice : (n : ℕ) → n % 2 ^ 64 % 2 ^ 32 ≡ n % 2 ^ 32
mod_twice n = ap (λ k. k % 2 ^ 32) (mod-pow-add n 32 32) ∙ mod_low (n / 2 ^ 32 % 2 ^ 32) 32 (n % 2 ^ 32) (mod_below n (2 ^ 32) (omega arith))

halves : (hi lo y : ℕ) → hi * 4294967296 + lo ≡ y → lo < 4294967296 → y < 18446744073709551616 → 18446744073709551615 - y ≡ (4294967295 - hi) * 4294967296 + (4294967295 - lo)
halves hi lo y e l s = omega (arith, e, l, s)

complement : (y : ℕ) → y < 2 ^ 64 → (2 ^ 64 - 1 - y) % 2 ^ 32 ≡ 2 ^ 32 - 1 - y % 2 ^ 32
complement y small =
    let below = mod_below y (2 ^ 32) (omega arith) in
    let parts = halves (y / 2 ^ 32) (y % 2 ^ 32) y (div-add-mod' y (2 ^ 32)) below small in
    ap (λ k. k % 2 ^ 32) parts ∙ mod_low (4294967295 - y / 2 ^ 32) 32 (4294967295 - y % 2 ^ 32) (omega (arith, below))

-- the low bits of the low bits
low_low : (z : ℤ) → low64 z % 2 ^ 32 ≡ low32 z
low_low (pos x) = mod_twice x
low_low (negsuc x) =
    complement (x % 2 ^ 64) (mod_below x (2 ^ 64) (omega arith)) ∙ ap (λ k. 2 ^ 32 - 1 - k) (mod_twice x)

low64_small : (z : ℤ) → low64 z < 2 ^ 64
low64_small (pos x) = mod_below x (2 ^ 64) (omega arith)
low64_small (negsuc x) = omega (arith, mod_below x (2 ^ 64) (omega arith))

-- the low bits of a number of 64 bits are those of its bits
low_of : (v : ℤ) → FitsSigned w64 v → low32 v ≡ of_z w64 v % 2 ^ 32
low_of (pos x) f = refl
low_of (negsuc x) f =
    let small : x < 2 ^ 64 = omega (arith, ints, f) in
    let same : of_z w64 (negsuc x) ≡ 2 ^ 64 - 1 - x = omega (arith, ints, f) in
    sym (ap (λ k. k % 2 ^ 32) same ∙ complement x small)

-- to wrap at 64 bits first changes nothing
wraps_once : (z : ℤ) → int_wrap w32 (int_wrap w64 z) ≡ int_wrap w32 z
unfolding int_wrap
wraps_once z =
    let a = low64 z in
    let bits : of_z w64 (to_z w64 a) ≡ a = of_z-to_z w64 a (low64_small z) in
    ap (λ k. to_z w32 k) (low_of (to_z w64 a) (SFits-int_wrap w64 z) ∙ ap (λ k. k % 2 ^ 32) bits ∙ low_low z)

-- nor at the width of a type
pub wraps_at : (t : ValueType) (z : ℤ) → int_wrap (width_of t) (int_wrap w64 z) ≡ int_wrap (width_of t) z
wraps_at V.Int32 z = wraps_once z
wraps_at V.Int64 z = int_wrap_fits w64 (int_wrap w64 z) (SFits-int_wrap w64 z)
wraps_at V.Bool z = int_wrap_fits w64 (int_wrap w64 z) (SFits-int_wrap w64 z)
wraps_at (V.Array n) z = int_wrap_fits w64 (int_wrap w64 z) (SFits-int_wrap w64 z)

-- nor where there may be no number
pub wraps_again : (t : ValueType) (exact : Option ℤ) (v : ℤ) → Some v ≡ option_map (int_wrap w64) exact → Some (int_wrap (width_of t) v) ≡ option_map (int_wrap (width_of t)) exact
wraps_again t None v is = cc
wraps_again t (Some z) v is =
    let same : v ≡ int_wrap w64 z = cc in
    ap (λ a. Some (int_wrap (width_of t) a)) same ∙ ap Some (wraps_at t z)
