-- Where the bytes of a command come from, and what it owes them.
use Rattle.std.specs.Prelude.{◌≡◌, ℕ, ◌+◌, ◌≤◌, Bool, List, length, Some}
use Rattle.std.specs.Io.KnownBytes.{IsAtEnd}
use Rattle.top_calls.specs.Streams.{HasGiven, IsKept, Stream}

-- it reads its source, which may hold so many bytes; or it reads nothing, and has these
pub data Origin : Type 0 where
  Reads : (most : ℕ) → Origin
  Has : (bytes : List ℕ) → Origin

-- what a command owes its bytes
pub record Duty : Type 1 where
  -- the bytes that are due to them, and the status
  pub IsDue : (text written : List ℕ) → (status : ℕ) → Type 0
  -- which bytes it takes
  pub IsTaken : (text : List ℕ) → Type 0
  -- why it refuses others, and the line that says so
  pub IsRefused : (text told : List ℕ) → Type 0
  -- whether its bytes are a text; others are refused with another status
  pub takes_text : Bool

pub record Command : Type 1 where
  pub origin : Origin
  pub duty : Duty

-- a program, seen from outside: what may be asked of it, and what it does then
pub record Program (Ask : Type 0) : Type 1 where
  -- the line for words that ask nothing
  pub usage : List ℕ
  -- whether it takes memory to read words, of which there may be none
  pub takes_memory : Bool
  pub command_of : Ask → Command

-- the source was read to its end, and these are all the bytes that it held
pub record ReadsWhole {S : Type 0} (most : ℕ) (source : Stream S) (bytes : List ℕ) : Type 0 where
  pub given : HasGiven source bytes
  pub at_end : IsAtEnd (source.told source.after)
  pub within : length bytes ≤ most

-- the bytes that a command works on
abbrev pub Gets : {S : Type 0} → Origin → Stream S → List ℕ → Type 0
Gets (Reads most) source bytes = ReadsWhole most source bytes
Gets (Has own) source bytes = IsKept source × (bytes ≡ own)

-- the same of a source that tells its bytes, before it is read
abbrev pub IsGiven : {S : Type 0} → Origin → Stream S → List ℕ → Type 0
IsGiven (Reads most) source bytes = (source.told source.before ≡ Some bytes) × (length bytes ≤ most)
IsGiven (Has own) source bytes = bytes ≡ own

-- no more was taken than the source may hold
abbrev pub TakesFew : {S : Type 0} → Origin → Stream S → Type 0
TakesFew (Reads most) source = (bytes : List ℕ) × HasGiven source bytes × (length bytes ≤ most)
TakesFew (Has own) source = IsKept source

-- one byte more was
abbrev pub TakesTooMany : {S : Type 0} → Origin → Stream S → Type 0
TakesTooMany (Reads most) source = (bytes : List ℕ) × HasGiven source bytes × (length bytes ≡ most + 1)
TakesTooMany (Has own) source = ⊥
