-- The slots of names, counted in 16 bits and standing still at the greatest number.
use Rattle.std.specs.Prelude.{◌≡◌, ℕ, ◌+◌, min, List, [], ◌∷◌}
use Rattle.kern_calls.specs.Types.{Names}
use Rattle.code_forms.specs.Setting.{size_of}

-- a number of 16 bits, which stands still at the greatest one
abbrev pub capped : ℕ → ℕ
capped n = min n 65535

-- the first slots of names, from a slot on
abbrev pub firsts_from : (first : ℕ) → Names → List ℕ
firsts_from first [] = []
firsts_from first (name ∷ rest) = first ∷ firsts_from (capped (first + size_of name.1)) rest

-- the slot behind those of names, from a slot on
abbrev pub slots_from : (first : ℕ) → Names → ℕ
slots_from first [] = first
slots_from first (name ∷ rest) = slots_from (capped (first + size_of name.1)) rest

-- the slots of names follow one another, and this one follows them
pub record AreSlots (names : Names) (firsts : List ℕ) (slots : ℕ) : Type 0 where
  pub each : firsts ≡ firsts_from 0 names
  pub next : slots ≡ slots_from 0 names
