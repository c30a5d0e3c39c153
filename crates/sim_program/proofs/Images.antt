-- Bytes are the image of accepted code or are refused, and not both.
use Rattle.std.proofs.Common.{◌≡◌, ℕ, ◌<◌, List, [], ◌++◌, sym, subst, ◌∙◌, arith, append-nil}
use Rattle.std.specs.Prelude.{Ok, Err, Result, IfOk, length}
use Rattle.core_isa.specs.declared.code.Code.{Code}
use Rattle.core_isa.specs.Marks.{Marked}
use Rattle.core_image.specs.Accepted.{IsGoodPlace, MainTakesArguments, MainTakesNothing}
use Rattle.core_image.specs.Answers.{IsEndOf}
use Rattle.core_image.specs.Fields.{HasFault}
use Rattle.core_image.specs.Ranges.{IsInRange}
use Rattle.core_image.specs.Spelling.{image_of}
use Rattle.core_image.specs.Table.{image}
use Rattle.core_image.specs.declared.end.ImageEnd.{ImageEnd}
use Rattle.core_image.specs.declared.end.ImageEnd.TheVariants as E
use Rattle.sim_program.specs.declared.image.Image.{Image}
use Rattle.sim_program.specs.declared.image.Image.TheVariants as I
use Rattle.sim_program.specs.Images.{IsAcceptedImage, IsImageRefused, bad_code, image_line, no_image}
use Rattle.sim_program.specs.Readings.{IsImageOf, IsVerifiedAs}

-- the laws of images, as the calls give them
abbrev OneEach : Type 0
OneEach = (a b : Code) (x y : List ℕ) → IsInRange a → IsInRange b → image_of a ++ x ≡ image_of b ++ y → (a ≡ b) × (x ≡ y)

abbrev NoFault : Type 0
NoFault = (code : Code) (place : ℕ) → IsInRange code → HasFault image (image_of code) place → ⊥

one-code : OneEach → (bytes : List ℕ) (a b : Code) → IsInRange a → IsInRange b → bytes ≡ image_of a → bytes ≡ image_of b → a ≡ b
one-code each bytes a b a_in b_in a_is b_is =
    (each a b [] [] a_in b_in (append-nil (image_of a) ∙ sym a_is ∙ b_is ∙ sym (append-nil (image_of b)))).0

-- accepted code has no bad place
good-place : (code : Code) (place : ℕ) → Marked code → MainTakesNothing code → place < length code.lines → IsGoodPlace code place
good-place code place marked main within = record { right = marked place within; no_main = λ takes. none takes }
  where
    none : MainTakesArguments code place → ⊥
    none takes =
        let nothing : takes.main.params ≡ 0 = main takes.main takes.is_main in
        let some = takes.takes in
        omega (arith, nothing, some)

pub accepted-not-refused : OneEach → NoFault → (bytes told : List ℕ) (code : Code) → IsAcceptedImage bytes code → IsImageRefused bytes told → ⊥
accepted-not-refused each none bytes told code is (no_image offset fault line) =
    none code offset is.in_range (subst (λ (b : List ℕ). HasFault image b offset) is.is_image fault)
accepted-not-refused each none bytes told code is (bad_code other in_range is_image place least line) =
    let same : code ≡ other = one-code each bytes code other is.in_range in_range is.is_image is_image in
    least.bad (good-place other place (subst Marked same is.marked) (subst MainTakesNothing same is.main) least.within)

-- an end that is a fault
fault-of-end : (bytes : List ℕ) (end : ImageEnd) (offset : ℕ) → end ≡ E.Fault offset → IsEndOf bytes end → HasFault image bytes offset
fault-of-end bytes end offset is h = subst (λ (e : ImageEnd). IsEndOf bytes e) is h

-- bytes with a fault are refused
pub refused-for-fault : OneEach → NoFault → (bytes told : List ℕ) (end : ImageEnd) (offset : ℕ) → end ≡ E.Fault offset → IsEndOf bytes end → told ≡ image_line offset
    → IsImageRefused bytes told × ((code : Code) → ¬ IsAcceptedImage bytes code)
refused-for-fault each none bytes told end offset is h line =
    let refused : IsImageRefused bytes told = no_image offset (fault-of-end bytes end offset is h) line in
    (refused, λ code taken. accepted-not-refused each none bytes told code taken refused)

-- what was made of the code of an image
image-of : OneEach → NoFault → (bytes : List ℕ) (code : Code) (image' : Image) → IsInRange code → bytes ≡ image_of code → IsVerifiedAs bytes code image' → IsImageOf bytes image'
image-of each none bytes code (I.Accepted verified) in_range is h =
    let accepted : IsAcceptedImage bytes verified =
    subst (IsAcceptedImage bytes) (sym h.0) (record { in_range = in_range; is_image = is; marked = h.1; main = h.2 }) in
    (accepted, λ told refused. accepted-not-refused each none bytes told verified accepted refused)
image-of each none bytes code (I.Refused told) in_range is h = (h, λ other taken. accepted-not-refused each none bytes told.items other taken h)

pub images-of : OneEach → NoFault → (bytes : List ℕ) (code : Code) {E : Type 0} (result : Result Image E) → IsInRange code → bytes ≡ image_of code → IfOk result (λ i. IsVerifiedAs bytes code i) → IfOk result (λ i. IsImageOf bytes i)
images-of each none bytes code (Ok i) in_range is h = image-of each none bytes code i in_range is h
images-of each none bytes code (Err e) in_range is h = tt
