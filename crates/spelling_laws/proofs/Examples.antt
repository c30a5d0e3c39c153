-- Numbers that aren't bytes can be read as a recording that they don't spell.
use Rattle.std.proofs.Common.{◌≡◌, ℕ, List, [], ◌∷◌, get_or, pos, refl, sym, ap, ◌∙◌, arith}
use Rattle.rtio_types.specs.Recordings.{Recorded}
use Rattle.recording_bytes.specs.declared.format.Format.TheVariants.{Fixed}
use Rattle.recording_bytes.specs.Spelling.{IsSpellingIn, spelling}
use Rattle.recording_bytes.proofs.Spelled.{spelled-read}
use Rattle.spelling_laws.specs.Recordings.{IsReadIn}

-- in format 1, no event, and a length whose first byte is none
numbers : List ℕ
numbers = 1 ∷ 0 ∷ 0 ∷ 0 ∷ 0 ∷ 256 ∷ 0 ∷ 0 ∷ 0 ∷ 0 ∷ 0 ∷ 0 ∷ 0 ∷ []

empty : Recorded
empty = record { events = []; length = pos 256 }

they_are_read : IsReadIn Fixed numbers empty
unfolding numbers empty
they_are_read = record { right = refl; format_is = refl; recording_is = refl }

it_is_spelled_otherwise : spelling Fixed empty ≡ 1 ∷ 0 ∷ 0 ∷ 0 ∷ 0 ∷ 0 ∷ 1 ∷ 0 ∷ 0 ∷ 0 ∷ 0 ∷ 0 ∷ 0 ∷ []
unfolding empty
it_is_spelled_otherwise = refl

they_spell_nothing : (recording : Recorded) → IsSpellingIn Fixed numbers recording → ⊥
unfolding numbers
they_spell_nothing recording s =
    let is : empty ≡ recording = sym they_are_read.recording_is ∙ spelled-read Fixed numbers recording s in
    let same : numbers ≡ spelling Fixed empty = s.spelled ∙ ap (spelling Fixed) (sym is) in
    let byte : 256 ≡ 0 = ap (λ bytes. get_or bytes 5 0) (same ∙ it_is_spelled_otherwise) in
    omega (arith, byte)
