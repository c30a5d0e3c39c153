-- Stated a second time for the proof's sake: the recording that bytes spell by Spelling.antt, as the code reads it.
-- The places of wrong fields in Fields.antt rest on it too.
use Rattle.std.specs.Prelude.{ℕ, zero, suc, ◌+◌, ◌/◌, ◌%◌, ◌==◌, ℤ, pos, List}
use Rattle.std.specs.Prelude.{[], ◌∷◌, take, drop, slice_index, if◌then◌else◌}
use Rattle.std.specs.Int.{cast_signed, from_le_bytes, int_wrapping_add, w32, w64}
use Rattle.rtio_types.specs.Recordings.{Recorded}
use Rattle.rtio_types.specs.declared.event.Event.{Event}
use Rattle.recording_bytes.specs.declared.format.Format.{Format}
use Rattle.recording_bytes.specs.declared.format.Format.TheVariants.{Fixed, Short}
use Rattle.recording_bytes.specs.Numbers.{number_of, unfolded}

-- the format that the first byte says
abbrev pub format_read : List ℕ → Format
format_read bytes = if slice_index bytes 0 == 1 then Fixed else Short

-- the number of events that the second field says
abbrev pub count_read : List ℕ → ℕ
count_read bytes =
    let byte = slice_index bytes in from_le_bytes w32 (byte 1 ∷ byte 2 ∷ byte 3 ∷ byte 4 ∷ [])

-- the length of a recording, in the third field
abbrev pub length_read : List ℕ → ℤ
length_read bytes =
    let byte = slice_index bytes in
    cast_signed
    w64
    (from_le_bytes w64 (byte 5 ∷ byte 6 ∷ byte 7 ∷ byte 8 ∷ byte 9 ∷ byte 10 ∷ byte 11 ∷ byte 12 ∷ []))

-- how many bytes of data there are, in the low half of the widths
abbrev pub data_width : List ℕ → ℕ
data_width bytes = slice_index bytes 2 % 16

-- how many bytes of the step there are, in the high half
abbrev pub step_width : List ℕ → ℕ
step_width bytes = slice_index bytes 2 / 16

-- the bytes of the data, behind channel, address and widths
abbrev pub data_bytes : List ℕ → List ℕ
data_bytes bytes = take (data_width bytes) (drop 3 bytes)

-- the bytes of the step, behind those of the data
abbrev pub step_bytes : List ℕ → List ℕ
step_bytes bytes = take (step_width bytes) (drop (data_width bytes) (drop 3 bytes))

-- how many bytes the event at the front has
abbrev pub event_size : Format → List ℕ → ℕ
event_size Fixed bytes = 14
event_size Short bytes = 3 + data_width bytes + step_width bytes

-- the event at the front in format 1
abbrev pub fixed_read : List ℕ → Event
fixed_read bytes =
    let byte = slice_index bytes in
    record {
      channel = byte 0;
      address = byte 1;
      value = from_le_bytes w32 (byte 2 ∷ byte 3 ∷ byte 4 ∷ byte 5 ∷ []);
      stamp =
          cast_signed
          w64
          (from_le_bytes w64 (byte 6 ∷ byte 7 ∷ byte 8 ∷ byte 9 ∷ byte 10 ∷ byte 11 ∷ byte 12 ∷ byte 13 ∷ []));
    }

-- in format 2, behind an event with this stamp
abbrev pub short_read : ℤ → List ℕ → Event
short_read before bytes =
    record {
      channel = slice_index bytes 0;
      address = slice_index bytes 1;
      value = number_of (data_bytes bytes);
      stamp = int_wrapping_add w64 before (unfolded (number_of (step_bytes bytes)));
    }

-- in either format
abbrev pub event_read : Format → ℤ → List ℕ → Event
event_read Fixed before bytes = fixed_read bytes
event_read Short before bytes = short_read before bytes

-- so many events at the front, behind one with this stamp
abbrev pub events_read : Format → ℤ → ℕ → List ℕ → List Event
events_read format before zero bytes = []
events_read format before (suc count) bytes =
    let event = event_read format before bytes in
    event ∷ events_read format event.stamp count (drop (event_size format bytes) bytes)

-- the recording that is read from bytes
abbrev pub recording_read : List ℕ → Recorded
recording_read bytes =
    record {
      events = events_read (format_read bytes) (pos 0) (count_read bytes) (drop 13 bytes);
      length = length_read bytes;
    }
