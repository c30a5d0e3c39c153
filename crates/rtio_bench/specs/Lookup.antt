-- Recordings that are looked up by name and by handle.
use Rattle.std.specs.Prelude.{ℕ, ◌+◌, ◌/◌, ◌%◌, List, [], ◌∷◌, ℤ, pos, Option, option_map, option_and_then}
use Rattle.rtio_types.specs.Recordings.{Recorded}
use Rattle.dma_store.specs.Kept.{KeptState, handle_of, recording_handled, recording_named}

-- one of 16 letters
abbrev pub letter_of : ℕ → ℕ
letter_of digit = 97 + digit % 16

-- the number's three digits, as letters
abbrev pub name_of : ℕ → List ℕ
name_of number = letter_of (number / 256) ∷ letter_of (number / 16) ∷ letter_of number ∷ []

-- a pulse on channel 0 that fills a block
abbrev pub recording_of : ℕ → Recorded
recording_of number =
    record {
      events =
          record { channel = 0; address = 0; value = 1; stamp = pos 0 }
          ∷ record { channel = 0; address = 0; value = 0; stamp = pos number }
          ∷ [];
      length = pos number;
    }

-- the length of the recording of a name
abbrev pub length_named : KeptState → List ℕ → Option ℤ
length_named kept name = option_map (λ recording. recording.length) (recording_named kept name)

-- the length of the recording that the handle of a name fetches
abbrev pub length_handled : KeptState → List ℕ → Option ℤ
length_handled kept name =
    option_and_then (λ handle. option_map (λ recording. recording.length) (recording_handled kept handle)) (handle_of kept name)
