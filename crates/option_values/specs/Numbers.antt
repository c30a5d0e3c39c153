-- Numbers in words.
use Rattle.std.specs.Bool.{then_some}
use Rattle.std.specs.Prelude.{ℕ, Bool, ◌&&◌, List, length, nat_le, Option, option_and_then}
use Rattle.std.specs.Char.{is_ascii_digit}
use Rattle.std.specs.List.{list_all}
use Rattle.std.specs.Str.Parse.{digits_value}
use Rattle.limits.specs.Limits.{most_digits}

-- 1 to 19 decimal digits; the first ones may be zeros
abbrev pub is_number : List ℕ → Bool
is_number text = nat_le 1 (length text) && nat_le (length text) most_digits && list_all is_ascii_digit text

-- the number that the text spells
abbrev pub number_of : List ℕ → Option ℕ
number_of text = then_some (is_number text) (digits_value 10 text)

-- the same, from the least to the most
abbrev pub number_in : ℕ → ℕ → List ℕ → Option ℕ
number_in least most text = option_and_then (λ number. then_some (nat_le least number && nat_le number most) number) (number_of text)
