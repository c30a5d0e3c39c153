-- Images of accepted code; the err lines of other bytes.
use Rattle.std.specs.Prelude.{◌≡◌, ℕ, List, ◌++◌, codes, decimal}
use Rattle.core_isa.specs.declared.code.Code.{Code}
use Rattle.core_isa.specs.Marks.{Marked}
use Rattle.core_image.specs.Accepted.{IsLeastBad, MainTakesNothing}
use Rattle.core_image.specs.Fields.{HasFault}
use Rattle.core_image.specs.Ranges.{IsInRange}
use Rattle.core_image.specs.Spelling.{image_of}
use Rattle.core_image.specs.Table.{image}

-- the bytes are the image of accepted code
pub record IsAcceptedImage (bytes : List ℕ) (code : Code) : Type 0 where
  pub in_range : IsInRange code
  pub is_image : bytes ≡ image_of code
  pub marked : Marked code
  pub main : MainTakesNothing code

-- the line of bytes that are no image: where the first wrong field begins
abbrev pub image_line : ℕ → List ℕ
image_line offset = codes "image " ++ decimal offset ++ codes "\n"

-- the line of code that isn't accepted: the first place that fails
abbrev pub bad_code_line : ℕ → List ℕ
bad_code_line place = codes "bad code " ++ decimal place ++ codes "\n"

-- why bytes are no image of accepted code, and the line that says so
pub data IsImageRefused (bytes told : List ℕ) : Type 0 where
  no_image : (offset : ℕ) → HasFault image bytes offset → told ≡ image_line offset → IsImageRefused bytes told
  bad_code : (code : Code) → IsInRange code → bytes ≡ image_of code → (place : ℕ) → IsLeastBad code place → told ≡ bad_code_line place → IsImageRefused bytes told
