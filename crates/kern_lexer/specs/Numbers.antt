-- The numbers and their values.
use Rattle.std.specs.Prelude.{ℕ, ◌+◌, ◌-◌, ◌*◌, ◌^◌, [], ◌∷◌, Bool, false, ◌||◌, ◌&&◌, ◌==◌, nat_lt}
use Rattle.std.specs.Prelude.{nat_eq, Option, Some, None, codes, fold, drop, length, if◌then◌else◌}
use Rattle.std.specs.Char.{is_ascii_digit, is_ascii_uppercase, is_ascii_hexdigit}
use Rattle.std.specs.List.{list_all, starts_with}
use Rattle.kern_lexer.specs.Bytes.{Bytes, underscore}

-- each byte is a digit, or an underscore behind a digit, and the last is a digit
abbrev pub are_digits : (after_digit : Bool) → Bytes → Bool
are_digits after_digit [] = after_digit
are_digits after_digit (b ∷ rest) =
    (is_ascii_digit b || (after_digit && (b == underscore))) && are_digits (is_ascii_digit b) rest

-- decimal digits, with single underscores between two of them
abbrev pub is_decimal : Bytes → Bool
is_decimal word = are_digits false word

-- `0x` and digits of base 16, in either case
abbrev pub is_hexadecimal : Bytes → Bool
is_hexadecimal word =
    starts_with nat_eq word (codes "0x") && nat_lt 2 (length word)
    && list_all is_ascii_hexdigit (drop 2 word)

-- the value of a digit of base 16
abbrev pub digit_value : ℕ → ℕ
digit_value b =
    if is_ascii_digit b then b - 48
    else if is_ascii_uppercase b then b - 55
    else b - 87

-- the value of what precedes a digit and the digit; an underscore counts for nothing
abbrev pub one_more_digit : (base value digit : ℕ) → ℕ
one_more_digit base value digit =
    if digit == underscore then value else base * value + digit_value digit

-- the value of digits in a base
abbrev pub value_of : (base : ℕ) → Bytes → ℕ
value_of base digits = fold (one_more_digit base) 0 digits

-- the value, where it is at most 2 ^ 63 - 1
abbrev pub within_limit : ℕ → Option ℕ
within_limit n = if nat_lt n (2 ^ 63) then Some n else None

-- the number that a word is
abbrev pub number_of : Bytes → Option ℕ
number_of word =
    if is_decimal word then within_limit (value_of 10 word)
    else if is_hexadecimal word then within_limit (value_of 16 (drop 2 word))
    else None
