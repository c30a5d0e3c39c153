-- Numbers in digits, as a waveform's reader takes them.
use Rattle.std.proofs.Common.{◌≡◌, ℕ, ◌≤◌, true, not, cond, List, [], ◌∷◌, refl, ap, arith, Some}
use Rattle.std.specs.Prelude.{nat_lt, Option}
use Rattle.std.specs.Char.{digit_value}
use Rattle.std.specs.List.{list_all}
use Rattle.std.specs.Str.Parse.{AllDigits, IsNumeral, digits_value}
use Rattle.std.proofs.lemmas.Bool.{and_from, lt-ltb, ne_eqb}
use Rattle.core_analyzer.specs.Level.{number_in}
use Rattle.core_analyzer.proofs.Split.{lacks}

-- digits pass the reader's test
digits-pass : (radix : ℕ) (ds : List ℕ) → AllDigits radix ds → list_all (λ d. nat_lt (digit_value d) radix) ds ≡ true
digits-pass radix [] h = refl
digits-pass radix (d ∷ ds) h = and_from _ _ (lt-ltb (digit_value d) radix h.0) (digits-pass radix ds h.1)

-- a numeral is read as its number
pub numeral-read : (radix : ℕ) (ds : List ℕ) → IsNumeral radix ds → number_in radix ds ≡ Some (digits_value radix ds)
numeral-read radix [] h = absurd (omega (arith, h.0))
numeral-read radix (d ∷ ds) h = ap (λ b. cond b (Some (digits_value radix (d ∷ ds))) Option.None) (digits-pass radix (d ∷ ds) h.1)

-- a byte that is no digit is none of the digits
pub digits-lack : (radix mark : ℕ) (ds : List ℕ) → radix ≤ digit_value mark → AllDigits radix ds → lacks mark ds ≡ true
digits-lack radix mark [] big h = refl
digits-lack radix mark (d ∷ ds) big h =
    let other : d ≡ mark → ⊥ = λ same. let e = ap digit_value same in omega (arith, h.0) in
    and_from _ _ (ap not (ne_eqb d mark other)) (digits-lack radix mark ds big h.1)
