-- What is read of an image, and of bytes that are none.
use Rattle.std.proofs.Common.{◌≡◌, ℕ, ◌-◌, ◌^◌, ◌<◌, ◌≤◌, Bool, true, false, eqb, ◌⊎◌, inl, inr, [], ◌∷◌, ◌++◌, length, Ok, Err, refl, sym, ap, subst, ◌∙◌, arith}
use Rattle.std.proofs.lemmas.Bool.{eqb-true, eqb-false}
use Rattle.std.proofs.lemmas.List.{append-nil, nil_from_length}
use Rattle.core_isa.specs.declared.code.Code.{Code}
use Rattle.core_image.specs.Answers.{IsImage, IsFaulty}
use Rattle.core_image.specs.Fields.{Bytes, AreBytes, HasFault}
use Rattle.core_image.specs.Parts.{ImageParts, parts_of}
use Rattle.core_image.specs.Ranges.{IsInRange}
use Rattle.core_image.specs.Reading.{Read, Fails, read, image_at}
use Rattle.core_image.specs.declared.reader.ReadEnd.{ReadEnd}
use Rattle.core_image.specs.declared.reader.ReadEnd.TheVariants.{Wrong}
use Rattle.core_image.specs.declared.end.ImageEnd.{ImageEnd}
use Rattle.core_image.specs.declared.end.ImageEnd.TheVariants.{Fault}
use Rattle.core_image.specs.Spelling.{spelling, image_of}
use Rattle.core_image.specs.Table.{image}
use Rattle.core_image.proofs.Converted.{range_fits, fits_range}
use Rattle.core_image.proofs.Described.{image_is}
use Rattle.core_image.proofs.Exact.{same_found}
use Rattle.core_image.proofs.ExactCode.{FitsImage, image_spelled}
use Rattle.core_image.proofs.Sizes.{fault_most, whole_most}
use Rattle.core_image.proofs.Made.{made_code}
use Rattle.core_image.proofs.SameCode.{same_code}
use Rattle.core_image.proofs.Faults.{StopsAt, wrong, more, no_fault, one_fault, fault_there, stops_within}

-- an image is read as its code
pub image_read : (code : Code) (rest : Bytes) → IsInRange code → image_at (image_of code ++ rest) ≡ Ok (parts_of code, rest)
image_read code rest h = image_spelled.again (parts_of code) rest (range_fits code h)

pub whole_image_read : (code : Code) → IsInRange code → image_at (image_of code) ≡ Ok (parts_of code, [])
whole_image_read code h = ap image_at (sym (append-nil (image_of code))) ∙ image_read code [] h

-- and is small
pub image_most : (code : Code) → IsInRange code → length (image_of code) ≤ 8388608
image_most code h = whole_most (image_of code) (parts_of code) (image_is.same (image_of code) ∙ whole_image_read code h)

-- what is read as some code is its image
pub read_image : (code : Code) (bytes : Bytes) → AreBytes bytes → image_at bytes ≡ Ok (parts_of code, []) → IsInRange code × (bytes ≡ image_of code)
read_image code bytes fits e =
    let p = image_spelled.takes bytes [] (parts_of code) fits e in
    (fits_range code p.1, p.0.parts ∙ append-nil (image_of code))

-- one image is of one code, and begins no other
pub one_code : (a b : Code) (x y : Bytes) → IsInRange a → IsInRange b → image_of a ++ x ≡ image_of b ++ y → (a ≡ b) × (x ≡ y)
one_code a b x y in_a in_b e =
    let both = sym (image_read a x in_a) ∙ ap image_at e ∙ image_read b y in_b in
    let same = same_found (parts_of a) (parts_of b) x y both in
    (same_code a b same.0, same.1)

-- no image has a fault
pub image_has_no_fault : (code : Code) (place : ℕ) → IsInRange code → HasFault image (image_of code) place → ⊥
image_has_no_fault code place h fault = no_fault image (image_of code) (parts_of code) place (image_is.same (image_of code) ∙ whole_image_read code h) fault

-- what was read isn't all of the bytes, or is wrong
pub stops_there : (bytes rest : Bytes) → StopsAt (image_at bytes) rest → StopsAt (read image bytes) rest
stops_there bytes rest h = subst (λ (r : Read ImageParts). StopsAt r rest) (sym (image_is.same bytes)) h

pub within : (bytes rest : Bytes) → StopsAt (image_at bytes) rest → length rest ≤ length bytes
within bytes rest h = stops_within image bytes rest (stops_there bytes rest h)

pub fault_at_stop : (bytes rest : Bytes) → StopsAt (image_at bytes) rest → HasFault image bytes (length bytes - length rest)
fault_at_stop bytes rest h = fault_there image bytes rest (stops_there bytes rest h)

-- not far from their beginning
pub few_before : (bytes rest : Bytes) → StopsAt (image_at bytes) rest → length bytes - length rest < 2 ^ 32
few_before bytes rest h = omega (arith, fault_most bytes (length bytes - length rest) (fault_at_stop bytes rest h))

pub no_image_stops : (bytes rest : Bytes) (code : Code) → StopsAt (image_at bytes) rest → IsInRange code → bytes ≡ image_of code → ⊥
no_image_stops bytes rest code h in_range e = image_has_no_fault code (length bytes - length rest) in_range (subst (λ (b : Bytes). HasFault image b (length bytes - length rest)) e (fault_at_stop bytes rest h))

-- where nothing is left, all of the bytes were read
pub all_read : (bytes rest : Bytes) (parts : ImageParts) (empty : Bool) → image_at bytes ≡ Ok (parts, rest) → empty ≡ eqb (length rest) 0 → empty ≡ true → image_at bytes ≡ Ok (parts, [])
all_read bytes rest parts empty e test is_empty = e ∙ ap (λ (r : Bytes). Ok (parts, r)) (nil_from_length rest (eqb-true _ _ (sym test ∙ is_empty)))

-- and nothing is wrong
pub nothing_wrong : (bytes : Bytes) (parts : ImageParts) (place : ℕ) → image_at bytes ≡ Ok (parts, []) → HasFault image bytes place → ⊥
nothing_wrong bytes parts place e fault = no_fault image bytes parts place (image_is.same bytes ∙ e) fault

-- else what is left is wrong
pub some_left : (bytes rest : Bytes) (parts : ImageParts) (empty : Bool) → image_at bytes ≡ Ok (parts, rest) → empty ≡ eqb (length rest) 0 → empty ≡ false → StopsAt (image_at bytes) rest
some_left bytes rest parts empty e test is_empty = more parts e (λ none. eqb-false (length rest) 0 (sym test ∙ is_empty) (ap length none))

-- what stops there names no other place
pub fault_is_there : (bytes rest : Bytes) (end : ImageEnd) (place : ℕ) → StopsAt (image_at bytes) rest → end ≡ Fault (length bytes - length rest) → HasFault image bytes place → end ≡ Fault place
fault_is_there bytes rest end place h is fault = is ∙ ap Fault (one_fault image bytes (length bytes - length rest) place (fault_at_stop bytes rest h) fault)

pub only_code : (a b : Code) (bytes : Bytes) → image_at bytes ≡ Ok (parts_of a, []) → IsInRange b → bytes ≡ image_of b → a ≡ b
only_code a b bytes e in_range is =
    same_code a b (same_found (parts_of a) (parts_of b) [] [] (sym e ∙ ap image_at is ∙ whole_image_read b in_range)).0

-- a reading that failed at a wrong field stops there
pub stopped : (end : ReadEnd) (bytes rest : Bytes) → end ≡ Wrong → Fails end rest (image_at bytes) → StopsAt (image_at bytes) rest
stopped end bytes rest is fails = wrong (subst (λ (e : ReadEnd). Fails e rest (image_at bytes)) is fails)

-- some bytes are an image or not
image_or_stop : (bytes : Bytes) (found : Read ImageParts) → image_at bytes ≡ found → AreBytes bytes → IsImage bytes ⊎ IsFaulty bytes
image_or_stop bytes (Err rest) e fits = inr (length bytes - length rest, fault_at_stop bytes rest (wrong e))
image_or_stop bytes (Ok (parts, b ∷ rest)) e fits = inr (length bytes - length (b ∷ rest), fault_at_stop bytes (b ∷ rest) (more parts e (λ none. absurd cc)))
image_or_stop bytes (Ok (parts, [])) e fits =
    let p = image_spelled.takes bytes [] parts fits e in
    let made = made_code parts p.1 in
    inl (made.code, fits_range made.code (subst FitsImage (sym made.is) p.1), p.0.parts ∙ append-nil (spelling parts) ∙ ap spelling (sym made.is))

pub image_or_not : (bytes : Bytes) → AreBytes bytes → IsImage bytes ⊎ IsFaulty bytes
image_or_not bytes fits = image_or_stop bytes (image_at bytes) refl fits
