-- Dumps: which values they are, and which bytes spell them.
use Rattle.std.specs.Prelude.{◌≡◌, ℕ, ◌<◌, ◌^◌, Bool, true, ◌&&◌, List, [], ◌∷◌, ◌++◌}
use Rattle.std.specs.Prelude.{length, nat_lt, int_le, pos, Option, Some, None, IsTrue}
use Rattle.std.specs.Int.{to_le_bytes, w32, w64}
use Rattle.std.specs.List.{list_all, AllByRecursion}
use Rattle.limits.specs.Limits.{channels}
use Rattle.rtio_types.specs.declared.event.Event.{Event}
use Rattle.rtio_log.specs.declared.LogLine.{LogLine}
use Rattle.rtio_log.specs.declared.LogKind.{LogKind}
use Rattle.rtio_log.specs.declared.LogKind.TheVariants.{Sequence, Collision, Busy, Cleared}
use Rattle.recording_bytes.specs.Spelling.{FitsFields, fixed_spelling}
use Rattle.rtio_headline.specs.Headline.{is_before}

-- what a core did: its counter in cycles, the events put out, and the lines of its log
pub record Dumped : Type 0 where
  pub counter : ℕ
  pub events : List Event
  pub lines : List LogLine

-- an event may follow the one before it: by stamp it is later, or at the same stamp its channel is higher
abbrev pub follows : Option Event → Event → Bool
follows None event = true
follows (Some before) event = is_before before event

-- its stamp is at least 0, and it may follow
abbrev pub is_next : Option Event → Event → Bool
is_next before event = int_le (pos 0) event.stamp && follows before event

-- events of the board's channels, each of them the next one behind the one before it
abbrev pub are_put_out_behind : Option Event → List Event → Bool
are_put_out_behind before [] = true
are_put_out_behind before (event ∷ events) =
    nat_lt event.channel channels && (is_next before event && are_put_out_behind (Some event) events)

-- the line is of a channel of the board
abbrev pub is_of_channel : LogLine → Bool
is_of_channel line = nat_lt line.event.channel channels

-- there are fewer than 2^32 events and fewer than 2^32 lines
abbrev pub has_few_entries : Dumped → Bool
has_few_entries dump = nat_lt (length dump.events) (2 ^ 32) && nat_lt (length dump.lines) (2 ^ 32)

-- the value is one that bytes can spell
abbrev pub is_dump : Dumped → Bool
is_dump dump = has_few_entries dump && (are_put_out_behind None dump.events && list_all is_of_channel dump.lines)

-- the byte of a kind of lines
abbrev pub kind_byte : LogKind → ℕ
kind_byte Sequence = 0
kind_byte Collision = 1
kind_byte Cleared = 2
kind_byte Busy = 3

-- the 23 bytes of a line: kind, number, event
abbrev pub line_bytes : LogLine → List ℕ
line_bytes line = kind_byte line.kind ∷ to_le_bytes w64 line.number ++ fixed_spelling line.event

-- the bytes of events, 14 each, as in format 1 of recordings: channel, address, data, stamp
abbrev pub events_bytes : List Event → List ℕ
events_bytes [] = []
events_bytes (event ∷ events) = fixed_spelling event ++ events_bytes events

-- the bytes of lines
abbrev pub lines_bytes : List LogLine → List ℕ
lines_bytes [] = []
lines_bytes (line ∷ lines) = line_bytes line ++ lines_bytes lines

-- the first 16 bytes: the letters DUM1, the counter, and the number of events; a number has its low byte first
abbrev pub header_bytes : ℕ → ℕ → List ℕ
header_bytes counter count = (68 ∷ 85 ∷ 77 ∷ 49 ∷ []) ++ to_le_bytes w64 counter ++ to_le_bytes w32 count

-- the bytes of a log: the number of its lines, and the lines
abbrev pub log_bytes : List LogLine → List ℕ
log_bytes lines = to_le_bytes w32 (length lines) ++ lines_bytes lines

-- the bytes of a dump: header, events, log
abbrev pub dump_bytes : Dumped → List ℕ
dump_bytes dump =
    header_bytes dump.counter (length dump.events) ++ (events_bytes dump.events ++ log_bytes dump.lines)

-- the numbers of an event fit their fields
abbrev pub FitsEvent : Event → Type 0
FitsEvent event = (event.address < 256) × FitsFields event

-- and those of a line
abbrev pub FitsLine : LogLine → Type 0
FitsLine line = (line.number < 2 ^ 64) × FitsEvent line.event

-- the bytes spell the dump, which can be spelled and whose numbers fit their fields
pub record IsSpelling (bytes : List ℕ) (dump : Dumped) : Type 0 where
  pub spelled : bytes ≡ dump_bytes dump
  pub valid : IsTrue (is_dump dump)
  pub counter_fits : dump.counter < 2 ^ 64
  pub events_fit : AllByRecursion FitsEvent dump.events
  pub lines_fit : AllByRecursion FitsLine dump.lines
