-- Recording bytes: which bytes spell a recording, in each of the two formats.
use Rattle.std.specs.Prelude.{◌≡◌, ℕ, ◌+◌, ◌*◌, ◌<◌, ◌^◌, List, [], ◌∷◌, ◌++◌, length, ℤ, pos, IsTrue, FitsSigned}
use Rattle.std.specs.Int.{cast_unsigned, to_le_bytes, w32, w64}
use Rattle.std.specs.List.{AllByRecursion}
use Rattle.rtio_types.specs.Recordings.{Recorded}
use Rattle.rtio_types.specs.declared.event.Event.{Event}
use Rattle.recording_bytes.specs.declared.format.Format.{Format}
use Rattle.recording_bytes.specs.declared.format.Format.TheVariants.{Fixed, Short}
use Rattle.recording_bytes.specs.Playable.{is_playable}
use Rattle.recording_bytes.specs.Numbers.{few_bytes, distance, folded}

-- the first byte says the format
abbrev pub format_byte : Format → ℕ
format_byte Fixed = 1
format_byte Short = 2

-- format 1: the 14 bytes of an event, which are channel, address, data, stamp
abbrev pub fixed_spelling : Event → List ℕ
fixed_spelling event =
    event.channel ∷ event.address ∷ [] ++ to_le_bytes w32 event.value ++ to_le_bytes w64 (cast_unsigned w64 event.stamp)

-- format 2: channel, address, the widths of data and step, data, and step, which is how far the stamp is from the one
-- before
abbrev pub short_spelling : ℤ → Event → List ℕ
short_spelling before event =
    let value = few_bytes 8 event.value in
    let step = few_bytes 8 (folded (distance before event.stamp)) in
    event.channel ∷ event.address ∷ (length value + 16 * length step) ∷ value ++ step

-- the bytes of an event behind one with this stamp
abbrev pub event_spelling : Format → ℤ → Event → List ℕ
event_spelling Fixed before event = fixed_spelling event
event_spelling Short before event = short_spelling before event

-- the bytes of events behind one with this stamp
abbrev pub events_spelling : Format → ℤ → List Event → List ℕ
events_spelling format before [] = []
events_spelling format before (event ∷ events) =
    event_spelling format before event ++ events_spelling format event.stamp events

-- the 13 bytes before the events: format, their number, the recording's length; a number has its low byte first
abbrev pub header_spelling : Format → ℕ → ℤ → List ℕ
header_spelling format count len = format_byte format ∷ [] ++ to_le_bytes w32 count ++ to_le_bytes w64 (cast_unsigned w64 len)

-- the bytes of a recording in a format; before its first event the stamp is 0
abbrev pub spelling : Format → Recorded → List ℕ
spelling format recording =
    header_spelling format (length recording.events) recording.length ++ events_spelling format (pos 0) recording.events

-- the numbers of an event fit their fields
abbrev pub FitsFields : Event → Type 0
FitsFields event = (event.value < 2 ^ 32) × FitsSigned w64 event.stamp

-- in this format the bytes spell a recording that may be kept and whose numbers fit their fields
pub record IsSpellingIn (format : Format) (bytes : List ℕ) (recording : Recorded) : Type 0 where
  pub spelled : bytes ≡ spelling format recording
  pub playable : IsTrue (is_playable recording)
  pub length_fits : FitsSigned w64 recording.length
  pub events_fit : AllByRecursion FitsFields recording.events

-- the bytes spell the recording in one of the formats
abbrev pub IsSpelling : List ℕ → Recorded → Type 0
IsSpelling bytes recording = (format : Format) × IsSpellingIn format bytes recording
