-- A source or a sink before and after a call, and what the call may have done to it.
use Rattle.std.specs.Prelude.{◌≡◌, ℕ, List, Option}
use Rattle.std.specs.Io.KnownBytes.{Appends, Consumes}
use Rattle.lab_io.specs.Causes.{Rose}
use Rattle.lab_io.specs.Writing.{AppendsPart}

-- a source or a sink as a call found and left it. Where it tells its bytes, those of a source are the ones still to
-- come, and those of a sink the ones that it holds; and it counts its calls that failed
pub record Stream (X : Type 0) : Type 0 where
  pub told : X → Option (List ℕ)
  pub faults : X → ℕ
  pub before : X
  pub after : X

abbrev pub stream : {X : Type 0} → (told : X → Option (List ℕ)) → (faults : X → ℕ) → (before after : X) → Stream X
stream told faults before after = record { told = told; faults = faults; before = before; after = after }

-- nothing was done to it
abbrev pub IsKept : {X : Type 0} → Stream X → Type 0
IsKept s = s.after ≡ s.before

-- a call of it failed; its count rose
abbrev pub HasFailed : {X : Type 0} → Stream X → Type 0
HasFailed s = Rose (s.faults s.before) (s.faults s.after)

-- none did
abbrev pub IsSteady : {X : Type 0} → Stream X → Type 0
IsSteady s = s.faults s.after ≡ s.faults s.before

-- a source has given these bytes
abbrev pub HasGiven : {X : Type 0} → Stream X → List ℕ → Type 0
HasGiven s bytes = Consumes (s.told s.before) (s.told s.after) bytes

-- a sink has got these bytes
abbrev pub HasGot : {X : Type 0} → Stream X → List ℕ → Type 0
HasGot s bytes = Appends (s.told s.before) (s.told s.after) bytes

-- a sink has got some of these bytes from the front, but not all
abbrev pub HasGotPart : {X : Type 0} → Stream X → List ℕ → Type 0
HasGotPart s bytes = AppendsPart (s.told s.before) (s.told s.after) bytes
