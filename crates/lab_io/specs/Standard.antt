-- What is seen of a reader or a writer of std as a source or a sink.
use Rattle.std.specs.Prelude.{ℕ, List, Option, Result, Ok, Err}
use Rattle.lab_io.specs.Causes.{raised}

-- what an adapter is seen as
pub record StreamState : Type 0 where
  -- where std tells them, the bytes that a reader has left, or those that a writer holds
  pub told : Option (List ℕ)
  -- how many calls failed
  pub faults : ℕ

-- the count of faults after a call that answered this
abbrev pub faults_after : {T E : Type 0} → ℕ → Result T E → ℕ
faults_after count (Ok x) = count
faults_after count (Err e) = raised count
