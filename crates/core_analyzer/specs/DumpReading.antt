-- Stated a second time for the proof's sake: the dump that bytes spell by Dumps.antt, as the code reads it.
-- The places of wrong fields in DumpFields.antt rest on it too.
use Rattle.std.specs.Prelude.{ℕ, zero, suc, ◌+◌, ◌*◌, ◌==◌, List, [], ◌∷◌, drop, slice_index, if◌then◌else◌}
use Rattle.std.specs.Int.{from_le_bytes, w32, w64}
use Rattle.rtio_types.specs.declared.event.Event.{Event}
use Rattle.rtio_log.specs.declared.LogLine.{LogLine}
use Rattle.rtio_log.specs.declared.LogKind.{LogKind}
use Rattle.rtio_log.specs.declared.LogKind.TheVariants.{Sequence, Collision, Busy, Cleared}
use Rattle.recording_bytes.specs.Reading.{fixed_read}
use Rattle.core_analyzer.specs.Dumps.{Dumped}

-- the number in the four bytes at the front
abbrev pub count_read : List ℕ → ℕ
count_read bytes = let byte = slice_index bytes in from_le_bytes w32 (byte 0 ∷ byte 1 ∷ byte 2 ∷ byte 3 ∷ [])

-- the number in the eight bytes at the front
abbrev pub number_read : List ℕ → ℕ
number_read bytes =
    let byte = slice_index bytes in
    from_le_bytes w64 (byte 0 ∷ byte 1 ∷ byte 2 ∷ byte 3 ∷ byte 4 ∷ byte 5 ∷ byte 6 ∷ byte 7 ∷ [])

-- so many events at the front
abbrev pub events_read : ℕ → List ℕ → List Event
events_read zero bytes = []
events_read (suc count) bytes = fixed_read bytes ∷ events_read count (drop 14 bytes)

-- the kind of a byte
abbrev pub kind_read : ℕ → LogKind
kind_read byte = if byte == 0 then Sequence else (if byte == 1 then Collision else (if byte == 2 then Cleared else Busy))

-- the line at the front
abbrev pub line_read : List ℕ → LogLine
line_read bytes =
    record { kind = kind_read (slice_index bytes 0); number = number_read (drop 1 bytes); event = fixed_read (drop 9 bytes) }

-- so many lines at the front
abbrev pub lines_read : ℕ → List ℕ → List LogLine
lines_read zero bytes = []
lines_read (suc count) bytes = line_read bytes ∷ lines_read count (drop 23 bytes)

-- what stands behind the header: the number of events is told in it
abbrev pub behind_header : List ℕ → List ℕ
behind_header bytes = drop 16 bytes

-- how many events there are
abbrev pub event_count : List ℕ → ℕ
event_count bytes = count_read (drop 12 bytes)

-- what stands behind the events: the number of lines, and the lines
abbrev pub behind_events : List ℕ → List ℕ
behind_events bytes = drop (16 + 14 * event_count bytes) bytes

-- the dump that is read from bytes
abbrev pub dump_read : List ℕ → Dumped
dump_read bytes = record {
  counter = number_read (drop 4 bytes);
  events = events_read (event_count bytes) (behind_header bytes);
  lines = lines_read (count_read (behind_events bytes)) (drop 4 (behind_events bytes));
}
