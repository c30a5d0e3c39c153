-- Where bytes that spell no dump are first wrong.
use Rattle.std.specs.Prelude.{ℕ, zero, suc, ◌+◌, ◌*◌, Bool, true, ◌&&◌, ◌==◌, nat_lt, List}
use Rattle.std.specs.Prelude.{[], ◌∷◌, ◌++◌, length, drop, slice_index, Option, Some, None}
use Rattle.limits.specs.Limits.{channels}
use Rattle.rtio_types.specs.declared.event.Event.{Event}
use Rattle.recording_bytes.specs.Reading.{fixed_read}
use Rattle.recording_bytes.specs.Fields.{Field, field_behind, wrong_among}
use Rattle.core_analyzer.specs.Dumps.{is_next}
use Rattle.core_analyzer.specs.DumpReading.{behind_events, behind_header, count_read, event_count}

-- the bytes begin with the letters DUM1
abbrev pub has_magic : List ℕ → Bool
has_magic bytes =
    let byte = slice_index bytes in (byte 0 == 68) && ((byte 1 == 85) && ((byte 2 == 77) && (byte 3 == 49)))

-- letters, counter, number of events
abbrev pub header_fields : List ℕ → List Field
header_fields bytes =
    let field = field_behind 0 bytes in field 0 4 (has_magic bytes) ∷ field 4 8 true ∷ field 12 4 true ∷ []

-- channel, address, data and stamp of an event behind another one: the stamp is at least
-- 0, and rises; the event begins at a place, and the bytes are those from there on
abbrev pub event_fields : ℕ → Option Event → List ℕ → List Field
event_fields place before bytes =
    let field = field_behind place bytes in
    let event = fixed_read bytes in
    field 0 1 (nat_lt event.channel channels)
    ∷ field 1 1 true
    ∷ field 2 4 true
    ∷ field 6 8 (is_next before event)
    ∷ []

-- the fields of so many events
abbrev pub fields_of_events : ℕ → Option Event → ℕ → List ℕ → List Field
fields_of_events place before zero bytes = []
fields_of_events place before (suc count) bytes =
    event_fields place before bytes ++ fields_of_events (place + 14) (Some (fixed_read bytes)) count (drop 14 bytes)

-- kind, number, channel, address, data and stamp of a line
abbrev pub line_fields : ℕ → List ℕ → List Field
line_fields place bytes =
    let field = field_behind place bytes in
    let byte = slice_index bytes in
    field 0 1 (nat_lt (byte 0) 4)
    ∷ field 1 8 true
    ∷ field 9 1 (nat_lt (byte 9) channels)
    ∷ field 10 1 true
    ∷ field 11 4 true
    ∷ field 15 8 true
    ∷ []

-- the fields of so many lines, and the end, behind which no byte stands
abbrev pub fields_of_lines : ℕ → ℕ → List ℕ → List Field
fields_of_lines place zero bytes = field_behind place bytes 0 0 (length bytes == 0) ∷ []
fields_of_lines place (suc count) bytes = line_fields place bytes ++ fields_of_lines (place + 23) count (drop 23 bytes)

-- the number of lines, and the lines; the bytes are those from the place on
abbrev pub log_fields : ℕ → List ℕ → List Field
log_fields place bytes = field_behind place bytes 0 4 true ∷ fields_of_lines (place + 4) (count_read bytes) (drop 4 bytes)

-- all fields in order
abbrev pub fields_of : List ℕ → List Field
fields_of bytes =
    let count = event_count bytes in
    header_fields bytes
    ++ fields_of_events 16 None count (behind_header bytes)
    ++ log_fields (16 + 14 * count) (behind_events bytes)

-- where the bytes are first wrong
abbrev pub first_wrong : List ℕ → Option ℕ
first_wrong bytes = wrong_among (fields_of bytes)
