-- Which code is accepted.
use Rattle.std.specs.Prelude.{◌≡◌, ℕ, ◌<◌, ◌≤◌, Some, length, slice_get}
use Rattle.core_isa.specs.Marks.{IsRightPlace}
use Rattle.core_isa.specs.declared.code.Code.{Code}
use Rattle.core_isa.specs.declared.code.CodeFunction.{CodeFunction}

-- the main function takes no arguments
abbrev pub MainTakesNothing : Code → Type 0
MainTakesNothing code = (main : CodeFunction) → slice_get code.functions code.main ≡ Some main → main.params ≡ 0

-- the main function begins at a place and takes arguments
pub record MainTakesArguments (code : Code) (place : ℕ) : Type 0 where
  pub main : CodeFunction
  pub is_main : slice_get code.functions code.main ≡ Some main
  pub begins : main.first ≡ place
  pub takes : 1 ≤ main.params

-- a place is right, and the main function doesn't begin there and take arguments
pub record IsGoodPlace (code : Code) (place : ℕ) : Type 0 where
  pub right : IsRightPlace code place
  pub no_main : ¬ MainTakesArguments code place

-- the least place of some code that isn't good
pub record IsLeastBad (code : Code) (place : ℕ) : Type 0 where
  pub within : place < length code.lines
  pub bad : ¬ IsGoodPlace code place
  pub least : (smaller : ℕ) → smaller < place → IsGoodPlace code smaller
