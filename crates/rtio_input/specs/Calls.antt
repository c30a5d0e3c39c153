-- What the calls of the inputs ask and leave.
use Rattle.std.specs.Prelude.{◌≡◌, ℕ, ◌-◌, Bool, ◌&&◌, ◌==◌, IsTrue, List, [], ◌∷◌, map, filter, fold}
use Rattle.std.specs.Prelude.{set, replicate, nat_lt, nat_le, int_le, if◌then◌else◌, length, Option, Some}
use Rattle.std.specs.List.{list_all, range_with_len}
use Rattle.rtio_types.specs.declared.event.Edge.{Edge}
use Rattle.rtio_types.specs.declared.event.Event.{Event}
use Rattle.rtio_types.specs.declared.request.Reply.{Reply}
use Rattle.rtio_types.specs.declared.request.Reply.TheVariants as answer
use Rattle.rtio_types.specs.Time.{cycle_of}
use Rattle.rtio_input.specs.Script.{are_by_cycle, are_of_inputs, edge_cycle, later_edges}
use Rattle.rtio_input.specs.Channel.{Unread, ChannelState, InputsState, closed_channel}
use Rattle.rtio_input.specs.Channel.{channel_at, after_edge, after_read, after_overflow}
use Rattle.rtio_input.specs.Past.{InputStep, Read, Overflowed, last_value, sees}

-- no edge to come is of a cycle before this one
abbrev pub passed_before : ℕ → InputsState → Bool
passed_before cycle s = list_all (λ x. nat_le cycle (edge_cycle x)) s.left

-- no edge to come is of a cycle up to this counter
abbrev pub passed : ℕ → InputsState → Bool
passed counter s = list_all (λ x. nat_lt counter (edge_cycle x)) s.left

-- eight inputs that see nothing
abbrev pub closed_channels : List ChannelState
closed_channels = replicate 8 closed_channel

-- the events are of this cycle
abbrev pub are_of_cycle : ℕ → List Event → Bool
are_of_cycle cycle events = list_all (λ e. cycle_of e == cycle) events

-- the sensitivity at an edge: the data of the last of the events of its
-- channel that have no greater stamp, and what was before if there is none
abbrev pub sensitivity_among : ℕ → List Event → Edge → ℕ
sensitivity_among before kept x = last_value before (filter (λ e. (e.channel == x.channel) && int_le e.stamp x.stamp) kept)

-- what is unread after an edge: it is kept, or sets the mark, if it is seen
abbrev pub after_own_edge : ℕ → List Event → Unread → Edge → Unread
after_own_edge before kept u x = if sees (sensitivity_among before kept x) x.rising then after_edge u x.stamp else u

-- an input after some edges of a cycle with these events put out
abbrev pub after_edges : List Event → List Edge → ℕ → ChannelState → ChannelState
after_edges kept edges channel c = record c {
  unread = fold (after_own_edge c.sensitivity kept) c.unread (filter (λ x. x.channel == channel) edges);
}

-- an input after these events
abbrev pub after_events : List Event → ℕ → ChannelState → ChannelState
after_events kept channel c = record c { sensitivity = last_value c.sensitivity (filter (λ e. e.channel == channel) kept) }

-- each input by its channel
abbrev pub each_channel : (ℕ → ChannelState → ChannelState) → List ChannelState → List ChannelState
each_channel f channels = map (λ k. f k (channel_at channels k)) (range_with_len 24 8)

-- an input after a cycle: its edges are seen or not, and then its events have set the sensitivity
abbrev pub channel_after_cycle : List Event → List Edge → ℕ → ChannelState → ChannelState
channel_after_cycle kept edges channel c = after_events kept channel (after_edges kept edges channel c)

-- the inputs after a cycle with these events put out
abbrev pub after_cycle : InputsState → ℕ → List Event → InputsState
after_cycle s cycle kept = record {
  left = later_edges cycle s.left;
  channels = each_channel (channel_after_cycle kept (filter (λ x. edge_cycle x == cycle) s.left)) s.channels;
}

-- what is unread after a reply
abbrev pub after_reply : Unread → Option Reply → Unread
after_reply u (Some (answer.Stamp x)) = after_read u
after_reply u (Some answer.Overflow) = after_overflow u
after_reply u reply = u

-- the inputs after a reply to a request for an edge
abbrev pub after_ask : InputsState → ℕ → Option Reply → InputsState
after_ask s channel reply = record s {
  channels = set s.channels (channel - 24) (record (channel_at s.channels channel) { unread = after_reply (channel_at s.channels channel).unread reply });
}

-- the inputs after a reset
abbrev pub after_reset : InputsState → InputsState
after_reset s = record s { channels = closed_channels }

-- the steps that a reply to a request for an edge stands for
abbrev pub answered_steps : ℕ → ℕ → Option Reply → List InputStep
answered_steps counter channel (Some (answer.Stamp x)) = Read counter channel ∷ []
answered_steps counter channel (Some answer.Overflow) = Overflowed counter channel ∷ []
answered_steps counter channel reply = []

-- the code's inputs: eight of them, and the edges to come are of inputs and stand by cycle
pub record AreInputs (left : List Edge) (channels : List ChannelState) : Type 0 where
  pub eight : length channels ≡ 8
  pub own : IsTrue (are_of_inputs left)
  pub by_cycle : IsTrue (are_by_cycle left)
