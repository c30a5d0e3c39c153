-- Edges, holds and recordings in words.
use Rattle.std.specs.Bool.{then_some}
use Rattle.std.specs.Prelude.{ℕ, ◌&&◌, ◌||◌, Bool, true, false, List, [], ◌∷◌, fold}
use Rattle.std.specs.Prelude.{replicate, nat_le, nat_lt, pos, Option, Some, None, is_some, not}
use Rattle.std.specs.Prelude.{option_map, option_and_then, bytes_eq, codes, slice_set, if◌then◌else◌}
use Rattle.std.specs.List.{list_all}
use Rattle.std.specs.Result.{result_ok}
use Rattle.hex.specs.Hex.{decode_of}
use Rattle.rtio_types.specs.Names.{is_name}
use Rattle.rtio_types.specs.Recordings.{Recorded}
use Rattle.rtio_types.specs.declared.event.Edge.{Edge}
use Rattle.recording_bytes.specs.Fields.{first_wrong}
use Rattle.recording_bytes.specs.Reading.{recording_read}
use Rattle.rtio_core.specs.declared.named.Named.{Named}
use Rattle.limits.specs.Limits.{channels, first_input, last_channel, last_stamp, most_hold}
use Rattle.option_values.specs.Parts.{at_colon, listed}
use Rattle.option_values.specs.Numbers.{number_in}

-- ---- edges

-- `r` is an edge that rises, `f` one that falls
abbrev pub rises : List ℕ → Option Bool
rises text = if bytes_eq text (codes "r") then Some true else if bytes_eq text (codes "f") then Some false else None

-- an input, a stamp of a script, and whether the edge rises
abbrev pub edge_by : List ℕ → List ℕ → List ℕ → Option Edge
edge_by channel stamp direction =
    option_and_then
    (λ channel. option_and_then
    (λ stamp. option_map
    (λ rising. record { channel = channel; stamp = pos stamp; rising = rising })
    (rises direction))
    (number_in 0 last_stamp stamp))
    (number_in first_input last_channel channel)

-- `CHANNEL:STAMP:r` or `CHANNEL:STAMP:f`
abbrev pub edge_of : List ℕ → Option Edge
edge_of text = at_colon (λ channel rest. at_colon (edge_by channel) rest) text

-- one or more edges, joined by commas
abbrev pub edges_of : List ℕ → Option (List Edge)
edges_of text = listed edge_of text

-- ---- holds

-- a channel, and the cycles for which it executes an event
abbrev pub hold_by : List ℕ → List ℕ → Option (ℕ × ℕ)
hold_by channel cycles =
    option_and_then
    (λ channel. option_map (λ cycles. (channel, cycles)) (number_in 0 most_hold cycles))
    (number_in 0 last_channel channel)

-- `CHANNEL:CYCLES`
abbrev pub hold_of : List ℕ → Option (ℕ × ℕ)
hold_of text = at_colon hold_by text

-- each channel is above the one before it
abbrev pub are_rising : List (ℕ × ℕ) → Bool
are_rising [] = true
are_rising (x ∷ []) = true
are_rising (x ∷ y ∷ rest) = nat_lt x.0 y.0 && are_rising (y ∷ rest)

-- no channel has a hold
abbrev pub no_holds : List ℕ
no_holds = replicate channels 0

-- the holds of all channels; a channel that isn't named has none
abbrev pub holds_by : List (ℕ × ℕ) → List ℕ
holds_by named = fold (λ holds (hold : ℕ × ℕ). slice_set holds hold.0 hold.1) no_holds named

-- one or more holds of rising channels, joined by commas
abbrev pub holds_of : List ℕ → Option (List ℕ)
holds_of text = option_and_then (λ named. then_some (are_rising named) (holds_by named)) (listed hold_of text)

-- ---- recordings

-- a digit, or a letter from `a` to `f`
abbrev pub is_hex_digit : ℕ → Bool
is_hex_digit b = (nat_le 48 b && nat_le b 57) || (nat_le 97 b && nat_le b 102)

-- the bytes that lower-case hex digits spell, two digits a byte
abbrev pub bytes_of : List ℕ → Option (List ℕ)
bytes_of text = if list_all is_hex_digit text then result_ok (decode_of text) else None

-- the recording that the bytes spell, in either format
abbrev pub recording_in : List ℕ → Option Recorded
recording_in bytes = then_some (not (is_some (first_wrong bytes))) (recording_read bytes)

-- a name, and a recording as hex digits
abbrev pub named_by : List ℕ → List ℕ → Option Named
named_by name hex =
    if is_name name
    then option_map (λ recording. record { name = name; recording = recording }) (option_and_then recording_in (bytes_of hex))
    else None

-- `NAME:HEX`
abbrev pub named_of : List ℕ → Option Named
named_of text = at_colon named_by text

-- one or more recordings, joined by commas
abbrev pub recordings_of : List ℕ → Option (List Named)
recordings_of text = listed named_of text
