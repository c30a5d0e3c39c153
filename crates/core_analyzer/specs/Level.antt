-- What a waveform says of a channel at a time, read from the text alone; and what events say of it.
use Rattle.std.specs.Prelude.{ℕ, pos, List, [], ◌∷◌, Bool, false, ◌&&◌, ◌==◌, nat_le}
use Rattle.std.specs.Prelude.{nat_lt, int_le, fold, if◌then◌else◌, Option, Some, None}
use Rattle.std.specs.List.{list_all, slice_split}
use Rattle.std.specs.Char.{digit_value}
use Rattle.std.specs.Str.Parse.{digits_value}
use Rattle.rtio_types.specs.declared.event.Event.{Event}
use Rattle.core_analyzer.specs.Waveform.{identifier}

-- the number that digits spell, at least one of them and nothing else
abbrev pub number_in : ℕ → List ℕ → Option ℕ
number_in radix [] = None
number_in radix (digit ∷ digits) =
    if list_all (λ d. nat_lt (digit_value d) radix) (digit ∷ digits)
    then Some (digits_value radix (digit ∷ digits))
    else None

-- the time of a line `#TIME`
abbrev pub time_in : List ℕ → Option ℕ
time_in [] = None
time_in (mark ∷ digits) = if mark == 35 then number_in 10 digits else None

-- the number of `BITS ID`, cut at its space, where ID is this channel's
abbrev pub data_in_parts : ℕ → List (List ℕ) → Option ℕ
data_in_parts channel (bits ∷ (id ∷ []) ∷ []) = if id == identifier channel then number_in 2 bits else None
data_in_parts channel parts = None

-- the number of a line `bBITS ID` with this channel's ID
abbrev pub data_in : ℕ → List ℕ → Option ℕ
data_in channel [] = None
data_in channel (mark ∷ rest) = if mark == 98 then data_in_parts channel (slice_split (λ b. b == 32) rest) else None

-- whether a line stands below a time of at most the one asked, by whether the line before it does
abbrev pub is_due_below : ℕ → Bool → Option ℕ → Bool
is_due_below time is_due (Some at) = nat_le at time
is_due_below time is_due None = is_due

-- the last number that counts, after a line
abbrev pub last_number : Bool → ℕ → Option ℕ → ℕ
last_number is_due number (Some next) = if is_due then next else number
last_number is_due number None = number

-- the number of the last line of the channel below a time of at most the one asked; at first it is the number given
abbrev pub level_in : (channel time : ℕ) → Bool → ℕ → List (List ℕ) → ℕ
level_in channel time is_due number [] = number
level_in channel time is_due number (line ∷ lines) =
    level_in channel time (is_due_below time is_due (time_in line)) (last_number is_due number (data_in channel line)) lines

-- the level of a channel at a time
abbrev pub level : List ℕ → (channel time : ℕ) → ℕ
level text channel time = level_in channel time false 0 (slice_split (λ b. b == 10) text)

-- the event puts out data on the channel by that time
abbrev pub is_shown : (channel time : ℕ) → Event → Bool
is_shown channel time event = event.channel == channel && int_le event.stamp (pos time)

-- the data of the last event of the channel with a stamp of at most the time; 0 if there is none
abbrev pub last_data : List Event → (channel time : ℕ) → ℕ
last_data events channel time = fold (λ value (event : Event). if is_shown channel time event then event.value else value) 0 events
