-- What reading a source to its end takes of it.
use Rattle.std.specs.Prelude.{◌≡◌, ℕ, ◌+◌, ◌≤◌, ◌<◌, Bool, IsTrue, IsFalse, List}
use Rattle.std.specs.Prelude.{[], ◌++◌, length, Option, Result, MatchResult, Vec}
use Rattle.std.specs.Io.KnownBytes.{Consumes, IsAtEnd}
use Rattle.std.specs.declared.alloc.Global.{Global}
use Rattle.lab_io.specs.declared.source.ReadEnd.{ReadEnd}
use Rattle.lab_io.specs.declared.source.ReadEnd.TheVariants.{Fault, TooLong, Memory}

-- how many bytes a reading that gave up took: one more than the maximum where they were too many,
-- and never more than the maximum otherwise
abbrev pub IsCountAt : ReadEnd → ℕ → ℕ → Type 0
IsCountAt TooLong max count = count ≡ max + 1
IsCountAt Fault max count = count ≤ max
IsCountAt Memory max count = count ≤ max

-- a reading that had so many bytes already took some more, and gave up
abbrev pub GivesUp : ℕ → Option (List ℕ) → Option (List ℕ) → ℕ → ReadEnd → Type 0
GivesUp max old new before end =
    (taken : List ℕ) × Consumes old new taken × IsCountAt end max (before + length taken)

-- all bytes up to the end were taken, at most the maximum; or some were, and it gave up
abbrev pub ReadsToEnd : ℕ → Option (List ℕ) → Option (List ℕ) → Result (Vec ℕ Global) ReadEnd → Type 0
ReadsToEnd max old new result =
    MatchResult result
    (λ bytes. Consumes old new bytes.items × IsAtEnd new × (length bytes.items ≤ max))
    (λ end. (taken : List ℕ) × Consumes old new taken × IsCountAt end max (length taken))

-- a piece of the source went behind the bytes, which stay within the maximum
pub record ReadsPiece (max : ℕ) (old new : Option (List ℕ)) (before after : List ℕ) (more : Bool) : Type 0 where
  pub piece : List ℕ
  pub taken : Consumes old new piece
  pub appended : after ≡ before ++ piece
  pub within : length after ≤ max
  -- an empty piece means the end
  pub longer : IsTrue more → length before < length after
  pub at_end : IsFalse more → (piece ≡ []) × IsAtEnd new
