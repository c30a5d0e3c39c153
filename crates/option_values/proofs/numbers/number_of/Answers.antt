use Rattle.std.proofs.Common.{rules, arith, ◌≡◌, ℕ, ◌<◌, ◌≤◌, ◌^◌, ◌&&◌, nat_le, length, true, List, refl, Result, Ok, lit≤}
use Rattle.std.proofs.lemmas.Bool.{and_parts, leb-true}
use Rattle.std.proofs.lemmas.Str.Parse.{IsNumeralModel, numerals_by_value, parse_gives, digits_value_short}
use Rattle.std.specs.Char.{is_ascii_digit}
use Rattle.std.specs.List.{list_all}
use Rattle.std.specs.Str.Parse.{ParsesUnsigned, digits_value}
use Rattle.limits.specs.Limits.{most_digits}
use Rattle.option_values.specs.Numbers.{is_number}
use Rattle.option_values.proofs.numbers.number_of.Goals as goal

own : IsNumeralModel (λ ds. list_all is_ascii_digit ds ≡ true) (digits_value 10)
own = numerals_by_value _ (search rules)

-- so few digits stay below 2^64
parsed : {E : Type 0} (text : List ℕ) (r : Result ℕ E) → ParsesUnsigned 64 10 text r → is_number text ≡ true → r ≡ Ok (digits_value 10 text)
parsed text r h formed =
    let front = and_parts (nat_le 1 (length text) && nat_le (length text) most_digits) (list_all is_ascii_digit text) formed in
    let sizes = and_parts (nat_le 1 (length text)) (nat_le (length text) most_digits) front.0 in
    let some = leb-true 1 (length text) sizes.0 in
    let few = leb-true (length text) most_digits sizes.1 in
    let short : digits_value 10 text < 10 ^ most_digits = digits_value_short own text most_digits front.1 few in
    let room : 10 ^ most_digits ≤ 2 ^ 64 = lit≤ tt in
    parse_gives own 64 text r h front.1 (omega (arith, some)) (omega (arith, short, room))

pub returns-then-is_number : goal.returns-then-is_number
returns-then-is_number c =
    let formed : is_number c.args.text.now ≡ true = search rules in
    let read = parsed c.args.text.now _ c.parse.ensures.value.0 formed in
    rw (c.ok.ensures.value, read, formed) refl
