-- Where bytes that spell no recording are first wrong.
use Rattle.std.specs.Prelude.{ℕ, zero, suc, ◌+◌, Bool, true, not, ◌&&◌, ◌||◌, ◌==◌, nat_le, nat_lt}
use Rattle.std.specs.Prelude.{List, [], ◌∷◌, ◌++◌, length, find, drop, slice_index, Option, option_map}
use Rattle.limits.specs.Limits.{channels}
use Rattle.rtio_types.specs.Board.{kind_of_channel, has_address}
use Rattle.recording_bytes.specs.declared.format.Format.{Format}
use Rattle.recording_bytes.specs.declared.format.Format.TheVariants.{Fixed, Short}
use Rattle.recording_bytes.specs.Numbers.{is_short}
use Rattle.recording_bytes.specs.Reading.{count_read, data_bytes, data_width, event_size}
use Rattle.recording_bytes.specs.Reading.{format_read, step_bytes, step_width}

-- a field: where it begins, whether the bytes go on to its end, and whether it is in its range
pub record Field : Type 0 where
  pub at : ℕ
  pub is_whole : Bool
  pub in_range : Bool

-- both hold of the field
abbrev pub is_right : Field → Bool
is_right field = field.is_whole && field.in_range

-- the field that begins so far behind a place and has so many bytes; the bytes are those from the place on
abbrev pub field_behind : ℕ → List ℕ → ℕ → ℕ → Bool → Field
field_behind place bytes from width in_range =
    record { at = place + from; is_whole = nat_le (from + width) (length bytes); in_range = in_range }

-- format, number of events, length
abbrev pub header_fields : List ℕ → List Field
header_fields bytes =
    let field = field_behind 0 bytes in
    let byte = slice_index bytes in
    field 0 1 ((byte 0 == 1) || (byte 0 == 2)) ∷ field 1 4 true ∷ field 5 8 true ∷ []

-- format 1: channel, address, data, stamp of the event that begins at a place; the bytes are those from there on
abbrev pub fixed_fields : ℕ → List ℕ → List Field
fixed_fields place bytes =
    let field = field_behind place bytes in
    let byte = slice_index bytes in
    field 0 1 (nat_lt (byte 0) channels)
    ∷ field 1 1 (has_address (kind_of_channel (byte 0)) (byte 1))
    ∷ field 2 4 true
    ∷ field 6 8 true
    ∷ []

-- data has at most 4 bytes, and a step 8
abbrev pub are_widths : List ℕ → Bool
are_widths bytes = nat_le (data_width bytes) 4 && nat_le (step_width bytes) 8

-- format 2: channel, address, widths
abbrev pub front_fields : ℕ → List ℕ → List Field
front_fields place bytes =
    let field = field_behind place bytes in
    let byte = slice_index bytes in
    field 0 1 (nat_lt (byte 0) channels)
    ∷ field 1 1 (has_address (kind_of_channel (byte 0)) (byte 1))
    ∷ field 2 1 (are_widths bytes)
    ∷ []

-- and then data and step
abbrev pub number_fields : ℕ → List ℕ → List Field
number_fields place bytes =
    let field = field_behind place bytes in
    field 3 (data_width bytes) (is_short (data_bytes bytes))
    ∷ field (3 + data_width bytes) (step_width bytes) (is_short (step_bytes bytes))
    ∷ []

-- all fields of an event in format 2
abbrev pub short_fields : ℕ → List ℕ → List Field
short_fields place bytes = front_fields place bytes ++ number_fields place bytes

-- all fields of an event in either format
abbrev pub event_fields : Format → ℕ → List ℕ → List Field
event_fields Fixed place bytes = fixed_fields place bytes
event_fields Short place bytes = short_fields place bytes

-- the fields of so many events, the first of which begins at the place, and the end, behind which no byte stands
abbrev pub fields_of_events : Format → ℕ → ℕ → List ℕ → List Field
fields_of_events format place zero bytes = field_behind place bytes 0 0 (length bytes == 0) ∷ []
fields_of_events format place (suc count) bytes =
    let size = event_size format bytes in
    event_fields format place bytes ++ fields_of_events format (place + size) count (drop size bytes)

-- all fields in order
abbrev pub fields_of : List ℕ → List Field
fields_of bytes =
    header_fields bytes ++ fields_of_events (format_read bytes) 13 (count_read bytes) (drop 13 bytes)

-- where the first of the fields that isn't right begins
abbrev pub wrong_among : List Field → Option ℕ
wrong_among fields = option_map (λ field. field.at) (find (λ field. not (is_right field)) fields)

-- where the bytes are first wrong
abbrev pub first_wrong : List ℕ → Option ℕ
first_wrong bytes = wrong_among (fields_of bytes)
