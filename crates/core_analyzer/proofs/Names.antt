-- The names of channels in decimal digits.
use Rattle.std.proofs.Common.{◌≡◌, ℕ, ◌+◌, ◌-◌, ◌<◌, ◌≤◌, ◌/◌, ◌%◌, cond, [], ◌∷◌, ◌++◌, ap, sym, ◌∙◌, arith, codes, inl, inr}
use Rattle.std.specs.Fmt.{decimal}
use Rattle.std.proofs.lemmas.Bool.{cases_lt, le-ltb, lt-ltb}
use Rattle.std.proofs.lemmas.Fmt.{decimal_digit, decimal_step}
use Rattle.rtio_types.specs.Board.{digits_of, name_of_channel}

-- a number below 100 in decimal
decimal-short : (n : ℕ) → n < 100 → decimal n ≡ digits_of n
decimal-short n small = elim (cases_lt n 10) [
  | inl one ↦ decimal_digit n one ∙ sym (ap (λ b. cond b ((48 + n) ∷ []) ((48 + n / 10) ∷ (48 + n % 10) ∷ [])) (lt-ltb n 10 one))
  | inr two ↦
      decimal_step n two (omega arith)
      ∙ ap (λ front. front ++ ((48 + n % 10) ∷ [])) (decimal_digit (n / 10) (omega arith))
      ∙ sym (ap (λ b. cond b ((48 + n) ∷ []) ((48 + n / 10) ∷ (48 + n % 10) ∷ [])) (le-ltb n 10 two))
]

pub name-of-out : (channel : ℕ) → channel < 16 → codes "ttl" ++ decimal channel ≡ name_of_channel channel
name-of-out channel low = rw (lt-ltb channel 16 low) (ap (λ ds. codes "ttl" ++ ds) (decimal-short channel (omega arith)))

pub name-of-raw : (channel : ℕ) → 16 ≤ channel → channel < 24 → codes "raw" ++ decimal (channel - 16) ≡ name_of_channel channel
name-of-raw channel low high = rw (le-ltb channel 16 low, lt-ltb channel 24 high) (ap (λ ds. codes "raw" ++ ds) (decimal-short (channel - 16) (omega arith)))

pub name-of-input : (channel : ℕ) → 24 ≤ channel → channel < 32 → codes "in" ++ decimal (channel - 24) ≡ name_of_channel channel
name-of-input channel low high = rw (le-ltb channel 16 (omega arith), le-ltb channel 24 low) (ap (λ ds. codes "in" ++ ds) (decimal-short (channel - 24) (omega arith)))
