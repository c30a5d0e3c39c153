-- Numbers, truth values and texts.
use Rattle.std.specs.Prelude.{ℕ, ◌-◌, ◌^◌, ℤ, pos, negsuc, Bool, ◌&&◌, List}
use Rattle.std.specs.Prelude.{nat_lt, int_le, unsigned_abs, option_and_then}
use Rattle.serde_json.specs.Data.{Data}
use Rattle.serde_json.specs.Find.{as_bool, as_integer, as_number, as_str}
use Rattle.json_fields.specs.declared.fault.FieldKind.TheVariants as K
use Rattle.json_fields.specs.Readings.{Reading, good, demand, found_or, ◌>>=◌, ◌>>◌}

-- a whole number, of 64 bits with or without a sign
abbrev pub integer : Data → Reading ℤ
integer d = found_or (option_and_then as_integer (as_number d)) K.Shape

-- it lies between two others, which are in the range
abbrev pub is_between : ℤ → ℤ → ℤ → Bool
is_between low high z = int_le low z && int_le z high

-- a whole number in a range
abbrev pub number : ℤ → ℤ → Data → Reading ℤ
number low high d = integer d >>= (λ z. demand (is_between low high z) K.Range >> good z)

-- a whole number of 64 bits with a sign
abbrev pub any_number : Data → Reading ℤ
any_number d = number (negsuc (2 ^ 63 - 1)) (pos (2 ^ 63 - 1)) d

-- a whole number from one that isn't negative on
abbrev pub count : ℕ → ℕ → Data → Reading ℕ
count low high d = integer d >>= (λ z. demand (is_between (pos low) (pos high) z) K.Range >> good (unsigned_abs z))

-- a place in a list of so many
abbrev pub index : ℕ → Data → Reading ℕ
index many d = count 0 (2 ^ 63 - 1) d >>= (λ n. demand (nat_lt n many) K.Index >> good n)

abbrev pub truth : Data → Reading Bool
truth d = found_or (as_bool d) K.Shape

-- `true`, and nothing else
abbrev pub yes : Data → Reading (Unit {0})
yes d = truth d >>= (λ b. demand b K.Range)

abbrev pub text : Data → Reading (List ℕ)
text d = found_or (as_str d) K.Shape

-- a text of a form
abbrev pub word : (List ℕ → Bool) → Data → Reading (List ℕ)
word is_formed d = text d >>= (λ bytes. demand (is_formed bytes) K.Range >> good bytes)
