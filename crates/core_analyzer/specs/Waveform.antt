-- The waveform of events: a text in this project's profile of VCD, line by line.
use Rattle.std.specs.Prelude.{ℕ, ◌+◌, ℤ, List, [], ◌∷◌, ◌++◌, map, flat_map, filter, false, codes, if◌then◌else◌}
use Rattle.std.specs.Fmt.{digits, signed_decimal}
use Rattle.std.specs.List.{range_with_len}
use Rattle.std.specs.Ordering.{int_eq}
use Rattle.rtio_types.specs.Board.{name_of_channel}
use Rattle.rtio_types.specs.declared.event.Event.{Event}

-- the channels of the board
abbrev pub channels : List ℕ
channels = range_with_len 0 32

-- the byte that stands for a channel in the text
abbrev pub identifier : ℕ → ℕ
identifier channel = 33 + channel

-- the line that names a channel
abbrev pub variable_line : ℕ → List ℕ
variable_line channel =
    codes "$var wire 32 " ++ (identifier channel ∷ []) ++ codes " " ++ name_of_channel channel ++ codes " $end"

-- the line of a moment
abbrev pub moment_line : ℤ → List ℕ
moment_line stamp = codes "#" ++ signed_decimal stamp

-- the line of a channel's new data, in binary without zeros in front
abbrev pub data_line : ℕ → ℕ → List ℕ
data_line channel value = codes "b" ++ digits 2 false value ++ codes " " ++ (identifier channel ∷ [])

-- the lines before those of the events: the names of the channels, and that each begins with 0
abbrev pub first_lines : List (List ℕ)
first_lines =
    (codes "$timescale 1ns $end" ∷ codes "$scope module artiq $end" ∷ [])
    ++ map variable_line channels
    ++ (codes "$upscope $end" ∷ codes "$enddefinitions $end" ∷ codes "#0" ∷ [])
    ++ map (λ channel. data_line channel 0) channels

-- the stamps of events that follow one with this stamp, each of them once
abbrev pub stamps_behind : ℤ → List Event → List ℤ
stamps_behind before [] = []
stamps_behind before (event ∷ events) =
    if int_eq event.stamp before then stamps_behind before events else event.stamp ∷ stamps_behind event.stamp events

-- the stamps of events, each of them once
abbrev pub stamps_of : List Event → List ℤ
stamps_of [] = []
stamps_of (event ∷ events) = event.stamp ∷ stamps_behind event.stamp events

-- the lines of a moment: its stamp, and the data of each event that has it
abbrev pub moment_lines : List Event → ℤ → List (List ℕ)
moment_lines events stamp =
    moment_line stamp ∷ map (λ (event : Event). data_line event.channel event.value) (filter (λ event. int_eq event.stamp stamp) events)

-- the lines of a waveform
abbrev pub waveform_lines : List Event → List (List ℕ)
waveform_lines events = first_lines ++ flat_map (moment_lines events) (stamps_of events)

-- lines as a text, each with a line feed at its end
abbrev pub text_of_lines : List (List ℕ) → List ℕ
text_of_lines lines = flat_map (λ line. line ++ codes "\n") lines

-- the waveform of events
abbrev pub waveform_text : List Event → List ℕ
waveform_text events = text_of_lines (waveform_lines events)
