-- Lemmas on the decimal digits of a number, which are read back.
use Rattle.std.proofs.Common.{◌≡◌, ℕ, ◌+◌, ◌-◌, ◌*◌, ◌<◌, ◌^◌, ◌∙◌, Bool, true, false, [], ◌∷◌, length, Some, ap, refl, arith, nat_lt}
use Rattle.std.specs.Char.{is_ascii_digit}
use Rattle.std.specs.Fmt.{decimal}
use Rattle.std.specs.Int.{IsInRange}
use Rattle.std.specs.List.{fold}
use Rattle.std.specs.Str.{all_ascii_digits}
use Rattle.std.proofs.lemmas.Bool.{lt-ltb}
use Rattle.std.proofs.lemmas.Fmt.{decimal_nonempty, digits_decimal, digits_value-decimal}
use Rattle.std.proofs.lemmas.Str.Parse.{IsNumeralModel, FoldsDigits, numerals_by_fold, tells_all_ascii_digits}
use Rattle.kern_lexer.specs.Bytes.{Bytes}
use Rattle.kern_lexer.specs.Numbers.{are_digits, is_decimal, number_of, one_more_digit, value_of, within_limit}

-- one more decimal digit
digit-more : (value c : ℕ) → IsInRange 48 57 c → one_more_digit 10 value c ≡ value * 10 + (c - 48)
digit-more value c within = grind arith

-- the value of decimal digits is theirs
reads_decimal : IsNumeralModel (λ ds. all_ascii_digits ds ≡ true) (value_of 10)
reads_decimal = numerals_by_fold (λ ds. all_ascii_digits ds ≡ true) tells_all_ascii_digits (λ value ds. fold (one_more_digit 10) value ds) folds
  where
    folds : FoldsDigits (λ value ds. fold (one_more_digit 10) value ds)
    folds = record {
      empty = λ value. refl;
      more = λ value c cs within. ap (λ v. fold (one_more_digit 10) v cs) (digit-more value c within);
    }

-- digits alone are a decimal number
digits-are : (after : Bool) (ds : Bytes) → all_ascii_digits ds ≡ true → 0 < length ds → are_digits after ds ≡ true
digits-are after [] digits some = absurd (omega arith)
digits-are after (c ∷ []) digits some =
    let first : is_ascii_digit c ≡ true = grind arith in
    rw first refl
digits-are after (c ∷ d ∷ cs) digits some =
    let first : is_ascii_digit c ≡ true = grind arith in
    let rest : all_ascii_digits (d ∷ cs) ≡ true = grind arith in
    let later : are_digits true (d ∷ cs) ≡ true = digits-are true (d ∷ cs) rest (omega arith) in
    rw (first, later) refl

-- the decimal digits of a number are digits
pub decimal-digits_are : (n : ℕ) → n < 2 ^ 64 → all_ascii_digits (decimal n) ≡ true
decimal-digits_are n fits = digits_decimal reads_decimal n fits

-- the decimal digits of a number are read as it
pub decimal-is_read : (n : ℕ) → n < 2 ^ 63 → number_of (decimal n) ≡ Some n
decimal-is_read n small =
    let fits : n < 2 ^ 64 = omega arith in
    let digits : all_ascii_digits (decimal n) ≡ true = decimal-digits_are n fits in
    let is_one : is_decimal (decimal n) ≡ true = digits-are false (decimal n) digits (decimal_nonempty n fits) in
    let value : value_of 10 (decimal n) ≡ n = digits_value-decimal reads_decimal n fits in
    let below : nat_lt n (2 ^ 63) ≡ true = lt-ltb n (2 ^ 63) small in
    let read : within_limit (value_of 10 (decimal n)) ≡ Some n = ap within_limit value ∙ limited below in
    rw is_one read
  where
    limited : nat_lt n (2 ^ 63) ≡ true → within_limit n ≡ Some n
    limited below = rw below refl
