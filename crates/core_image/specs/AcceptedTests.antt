-- Which code is accepted, stated a second time for the proofs of a verifier: as tests, which compute.
use Rattle.std.specs.Prelude.{◌≡◌, ℕ, ◌<◌, ◌≤◌, Bool, true, false, not, ◌&&◌, ◌==◌}
use Rattle.std.specs.Prelude.{nat_lt, nat_le, Option, Some, None, length, slice_get}
use Rattle.core_isa.specs.Marks.{function_index}
use Rattle.core_isa.specs.MarkTests.{is_right_place}
use Rattle.core_isa.specs.declared.code.Code.{Code}
use Rattle.core_isa.specs.declared.code.CodeFunction.{CodeFunction}
use Rattle.core_isa.specs.declared.code.Mark.{Mark}
use Rattle.core_image.specs.Ranges.{IsInRange}
use Rattle.core_image.specs.declared.spot.WideMark.{WideMark}

-- this function begins at a place and takes arguments
abbrev pub takes_arguments_at : ℕ → Option CodeFunction → Bool
takes_arguments_at place None = false
takes_arguments_at place (Some f) = (f.first == place) && nat_le 1 f.params

-- a place is good
abbrev pub is_good_place : Code → ℕ → Bool
is_good_place code place =
    is_right_place code place && not (takes_arguments_at place (slice_get code.functions code.main))

-- the places from one up to another are good
abbrev pub AreGood : Code → (from to : ℕ) → Type 0
AreGood code from to = (place : ℕ) → from ≤ place → place < to → is_good_place code place ≡ true

-- code in range of which every place is good
pub record IsVerified (code : Code) : Type 0 where
  pub in_range : IsInRange code
  pub accepted : AreGood code 0 (length code.lines)

-- where the function of an index begins, or the end of the code
abbrev pub first_of : (lines : ℕ) → Option CodeFunction → ℕ
first_of lines None = lines
first_of lines (Some f) = f.first

abbrev pub start_of : Code → (index : ℕ) → ℕ
start_of code index = first_of (length code.lines) (slice_get code.functions index)

-- a place of a function that extends up to an end: other places are of the same function where they lie within it
pub record IsSpot (code : Code) (f : CodeFunction) (end place : ℕ) : Type 0 where
  pub found : slice_get code.functions (function_index code place) ≡ Some f
  pub same : (to : ℕ) → to < length code.lines → (function_index code to == function_index code place) ≡ (nat_le f.first to && nat_lt to end)
  pub within : end ≤ length code.lines
  pub below : place < end
  pub main : code.main < length code.functions

-- the mark of wide numbers
abbrev pub narrow : WideMark → Mark
narrow wide = record { height = wide.height; tries = wide.tries; rec = wide.rec }
