-- Cutting a text at a byte.
use Rattle.std.proofs.Common.{◌≡◌, ℕ, ◌<◌, ◌==◌, List, [], ◌∷◌, length, Bool, true, false, Some, None, refl, arith}
use Rattle.std.specs.List.{after_first, before_first, list_any, position_or_len}
use Rattle.option_values.specs.Parts.{cut}

module _ (byte : ℕ) where
  abbrev is_byte : ℕ → Bool
  is_byte b = b == byte

  -- a text without the byte
  pub any-none : (text : List ℕ) → position_or_len is_byte text ≡ length text → list_any is_byte text ≡ false
  any-none [] e = refl
  any-none (b ∷ text) e = go (b == byte) refl (any-none text)
    where
      go : (t : Bool) → (b == byte) ≡ t → (position_or_len is_byte text ≡ length text → list_any is_byte text ≡ false)
          → list_any is_byte (b ∷ text) ≡ false
      go true here rest = absurd (grind (arith, here, e))
      go false here rest = rw here (rest (grind (arith, here, e)))

  -- a text with the byte
  pub any-some : (text : List ℕ) → position_or_len is_byte text < length text → list_any is_byte text ≡ true
  any-some [] e = absurd (omega (arith, e))
  any-some (b ∷ text) e = go (b == byte) refl (any-some text)
    where
      go : (t : Bool) → (b == byte) ≡ t → (position_or_len is_byte text < length text → list_any is_byte text ≡ true)
          → list_any is_byte (b ∷ text) ≡ true
      go true here rest = rw here refl
      go false here rest = rw here (rest (grind (arith, here, e)))

  -- what `split_once` gives is the cut
  pub cut-none : (text : List ℕ) → position_or_len is_byte text ≡ length text → cut byte text ≡ None
  cut-none text e = rw (any-none text e) refl

  pub cut-some : (text before after : List ℕ) → position_or_len is_byte text < length text
      → before ≡ before_first is_byte text → after ≡ after_first is_byte text → cut byte text ≡ Some (before, after)
  cut-some text before after e is_before is_after = rw (any-some text e, is_before, is_after) refl
