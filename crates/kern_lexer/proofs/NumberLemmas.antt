-- Lemmas on the values of numbers.
use Rattle.std.proofs.Common.{◌≡◌, ℕ, ◌+◌, ◌*◌, ◌<◌, ◌≤◌, ◌^◌, [], ◌∷◌, drop, length, get_or, None, arith, nat_eq}
use Rattle.std.specs.List.{fold}
use Rattle.std.proofs.lemmas.Bool.{cond_both}
use Rattle.std.proofs.lemmas.List.{drop_more}
use Rattle.kern_lexer.specs.Bytes.{Bytes}
use Rattle.kern_lexer.specs.Numbers.{one_more_digit, digit_value, value_of, within_limit}

-- a digit more makes no value smaller
pub one_more-grows : (base value digit : ℕ) → 1 ≤ base → value ≤ one_more_digit base value digit
one_more-grows base value digit some =
    cond_both (nat_eq digit 95) value (base * value + digit_value digit) (λ n. value ≤ n) (λ _. omega arith) (λ _. grows base value (digit_value digit) some)
  where
    grows : (base value more : ℕ) → 1 ≤ base → value ≤ base * value + more
    grows base value more some = grind arith

-- the digits that follow make no value smaller
pub value-grows : (base value : ℕ) (digits : Bytes) → 1 ≤ base
    → value ≤ fold (one_more_digit base) value digits
value-grows base value [] some = omega arith
value-grows base value (b ∷ rest) some =
    omega (arith, one_more-grows base value b some, value-grows base (one_more_digit base value b) rest some)

-- a value above the limit is none
pub above_limit : (n : ℕ) → within_limit n ≡ None → 2 ^ 63 ≤ n
above_limit n none = grind arith

-- a value that isn't below the limit
pub none-above : (n : ℕ) → 2 ^ 63 ≤ n → within_limit n ≡ None
none-above n above = grind arith

-- where one digit more is above the limit, the whole is
pub past_limit : (base value : ℕ) (digits : Bytes) (i b : ℕ) → 1 ≤ base → i < length digits
    → b ≡ get_or digits i 0 → (b ≡ 95 → ⊥) → within_limit (base * value + digit_value b) ≡ None
    → fold (one_more_digit base) value (drop i digits) ≡ value_of base digits
    → within_limit (value_of base digits) ≡ None
past_limit base value digits i b some inside is digit none same =
    none-above (value_of base digits) (omega (arith, above_limit (base * value + digit_value b) none, grown, whole))
  where
    next : one_more_digit base value b ≡ base * value + digit_value b
    next = grind arith

    whole : fold (one_more_digit base) (one_more_digit base value b) (drop (i + 1) digits) ≡ value_of base digits
    whole = let e = drop_more digits i 0 inside in cc

    grown : base * value + digit_value b ≤ fold (one_more_digit base) (one_more_digit base value b) (drop (i + 1) digits)
    grown = let g = value-grows base (one_more_digit base value b) (drop (i + 1) digits) some in omega (arith, g, next)
