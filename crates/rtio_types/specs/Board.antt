-- The board: which channels there are, what each does, which addresses it has and what it is called.
use Rattle.std.specs.Prelude.{ℕ, ◌+◌, ◌-◌, ◌/◌, ◌%◌, List, [], ◌∷◌, ◌++◌, Bool, true, false}
use Rattle.std.specs.Prelude.{nat_lt, ◌==◌, if◌then◌else◌, Option, Some, None, codes, bytes_eq}
use Rattle.std.specs.List.{find, range_with_len, list_all}
use Rattle.rtio_types.specs.declared.board.ChannelKind.{ChannelKind}
use Rattle.rtio_types.specs.declared.board.ChannelKind.TheVariants.{Out, OutRaw, Input}
use Rattle.rtio_types.specs.declared.event.Event.{Event}

-- what a channel does: 0 to 15 are outputs, 16 to 23 raw outputs, 24 to 31 inputs, and there are no others
abbrev pub kind_of_channel : ℕ → Option ChannelKind
kind_of_channel channel =
    if nat_lt channel 16
    then Some Out
    else (if nat_lt channel 24 then Some OutRaw else (if nat_lt channel 32 then Some Input else None))

-- a channel of this kind is an input
abbrev pub is_input_kind : Option ChannelKind → Bool
is_input_kind (Some Input) = true
is_input_kind kind = false

-- the channel is an input of the board
abbrev pub is_input : ℕ → Bool
is_input channel = is_input_kind (kind_of_channel channel)

-- a channel of this kind is an output
abbrev pub is_output_kind : Option ChannelKind → Bool
is_output_kind (Some Out) = true
is_output_kind (Some OutRaw) = true
is_output_kind kind = false

-- the channel is an output of the board
abbrev pub is_output : ℕ → Bool
is_output channel = is_output_kind (kind_of_channel channel)

-- on a channel of this kind an output replaces an earlier one of the same stamp
abbrev pub replaces_at_kind : Option ChannelKind → Bool
replaces_at_kind (Some OutRaw) = false
replaces_at_kind kind = true

-- on this channel an output replaces an earlier one of the same stamp
abbrev pub replaces : ℕ → Bool
replaces channel = replaces_at_kind (kind_of_channel channel)

-- the addresses of a kind: 0 of an output, any byte of a raw output, 2 (the sensitivity) of an input
abbrev pub has_address : Option ChannelKind → ℕ → Bool
has_address (Some Out) address = address == 0
has_address (Some OutRaw) address = nat_lt address 256
has_address (Some Input) address = address == 2
has_address None address = false

-- the event names a channel of the board and one of its addresses
abbrev pub is_of_board : Event → Bool
is_of_board event = has_address (kind_of_channel event.channel) event.address

-- each of the events does
abbrev pub are_of_board : List Event → Bool
are_of_board events = list_all is_of_board events

-- a number below 100 in decimal digits
abbrev pub digits_of : ℕ → List ℕ
digits_of n = if nat_lt n 10 then (48 + n) ∷ [] else (48 + n / 10) ∷ (48 + n % 10) ∷ []

-- the name of a channel of the board: ttl0 to ttl15, raw0 to raw7, in0 to in7
abbrev pub name_of_channel : ℕ → List ℕ
name_of_channel channel =
    if nat_lt channel 16
    then codes "ttl" ++ digits_of channel
    else (if nat_lt channel 24 then codes "raw" ++ digits_of (channel - 16) else codes "in" ++ digits_of (channel - 24))

-- the channel of the board that has this name
abbrev pub channel_of_name : List ℕ → Option ℕ
channel_of_name name = find (λ channel. bytes_eq (name_of_channel channel) name) (range_with_len 0 32)
