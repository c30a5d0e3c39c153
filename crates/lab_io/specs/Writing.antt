-- What a write gives to a sink.
use Rattle.std.specs.Prelude.{ℕ, ◌<◌, List, length, take, Option, Result, IfOk}
use Rattle.std.specs.Io.KnownBytes.{Appends}

-- a call that didn't fail took at least one byte of a piece that isn't empty
abbrev pub MakesProgress : {E : Type 0} → Result ℕ E → List ℕ → Type 0
MakesProgress result bytes = IfOk result (λ n. 0 < length bytes → 0 < n)

-- known bytes grow by some of these from the front, and not by all
abbrev pub AppendsPart : Option (List ℕ) → Option (List ℕ) → List ℕ → Type 0
AppendsPart old new bytes = (n : ℕ) × (n < length bytes) × Appends old new (take n bytes)
