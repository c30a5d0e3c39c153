-- One input, and the reply to a request for its next edge.
use Rattle.std.specs.Prelude.{ℕ, ◌-◌, Bool, true, false, List, [], ◌∷◌, ◌++◌, length, get_or, nat_lt, ℤ}
use Rattle.std.specs.Prelude.{pos, int_le, int_lt, if◌then◌else◌, Option, Some, None, option_map, slice_get}
use Rattle.rtio_types.specs.declared.event.Edge.{Edge}
use Rattle.rtio_types.specs.declared.request.Reply.{Reply}
use Rattle.rtio_types.specs.declared.request.Reply.TheVariants as answer
use Rattle.rtio_types.specs.Board.{is_input}
use Rattle.rtio_types.specs.Time.{reading}
use Rattle.rtio_input.specs.Script.{edge_cycle}

-- the stamps of the unread edges, the least first, and the mark: whether an edge was dropped for want of room
pub record Unread : Type 0 where
  pub stamps : List ℤ
  pub overflow : Bool

-- an input: what is unread, and the data of the last sensitivity event since the last reset
pub record ChannelState : Type 0 where
  pub unread : Unread
  pub sensitivity : ℕ

-- the edges of the cycles to come, and the inputs in the order of their channels
pub record InputsState : Type 0 where
  pub left : List Edge
  pub channels : List ChannelState

abbrev pub nothing_unread : Unread
nothing_unread = record { stamps = []; overflow = false }

-- an input that sees nothing
abbrev pub closed_channel : ChannelState
closed_channel = record { unread = nothing_unread; sensitivity = 0 }

-- the inputs are the channels 24 to 31
abbrev pub channel_at : List ChannelState → ℕ → ChannelState
channel_at channels channel = get_or channels (channel - 24) closed_channel

-- what a channel has unread; one that is no input has nothing
abbrev pub unread_of : InputsState → ℕ → Unread
unread_of s channel = if is_input channel then (channel_at s.channels channel).unread else nothing_unread

-- the cycle of the first edge that is still to come, if there is one
abbrev pub next_cycle : InputsState → Option ℕ
next_cycle s = option_map edge_cycle (slice_get s.left 0)

-- a seen edge is kept while fewer than 64 are unread, and else it sets the mark
abbrev pub after_edge : Unread → ℤ → Unread
after_edge u stamp =
    if nat_lt (length u.stamps) 64 then record u { stamps = u.stamps ++ stamp ∷ [] } else record u { overflow = true }

-- without the first stamp
abbrev pub without_first : List ℤ → List ℤ
without_first [] = []
without_first (x ∷ xs) = xs

-- what is unread after the first edge was read
abbrev pub after_read : Unread → Unread
after_read u = record u { stamps = without_first u.stamps }

-- what is unread after the mark was cleared
abbrev pub after_overflow : Unread → Unread
after_overflow u = record u { overflow = false }

-- the reply where no mark is set: the least stamp if it is below the moment, and no edge once the counter's reading
-- has reached the moment
abbrev pub reply_to_stamps : List ℤ → ℕ → ℤ → Option Reply
reply_to_stamps [] counter up_to = if int_le up_to (pos (reading counter)) then Some answer.NoEdge else None
reply_to_stamps (x ∷ xs) counter up_to = if int_lt x up_to then Some (answer.Stamp x) else Some answer.NoEdge

-- the reply to a request for an edge below a moment, None where it isn't decided at the counter
abbrev pub edge_reply : Unread → ℕ → ℤ → Option Reply
edge_reply u counter up_to = if u.overflow then Some answer.Overflow else reply_to_stamps u.stamps counter up_to
