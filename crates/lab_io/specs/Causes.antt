-- When a call may say that it failed, and how failures are counted.
use Rattle.std.specs.Prelude.{◌≡◌, ℕ, ◌+◌, ◌-◌, ◌^◌, ◌≤◌, min, Bool, ◌==◌, List, Result, OnOk, OnErr}
use Rattle.std.specs.List.{list_any}

-- a count after one more; it stands still at its type's end
abbrev pub raised : ℕ → ℕ
raised count = min (count + 1) (2 ^ 64 - 1)

-- a count of faults has risen; one that stands at its type's end counts as risen
abbrev pub Rose : ℕ → ℕ → Type 0
Rose before now = raised before ≤ now

-- the count of faults has risen by one where the call failed, and is as before where it didn't
pub record HasCause {T E : Type 0} (before now : ℕ) (result : Result T E) : Type 0 where
  pub later : before ≤ now
  pub once : now ≤ before + 1
  pub failed : OnErr result (Rose before now)
  pub steady : OnOk result (now ≡ before)

-- whether this call's number is one of those that are to fail
abbrev pub is_chosen : List ℕ → ℕ → Bool
is_chosen fails call = list_any (λ n. n == call) fails
