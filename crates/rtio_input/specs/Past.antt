-- What an input has unread, by all that happened.
use Rattle.std.specs.Prelude.{◌≡◌, ℕ, ◌+◌, ◌/◌, ◌%◌, Bool, true, IsTrue, ◌&&◌, ◌==◌, List, [], ◌∷◌, map}
use Rattle.std.specs.Prelude.{filter, fold, nat_lt, nat_le, int_le, if◌then◌else◌, Option, Some, None}
use Rattle.std.specs.List.{list_all, range_with_len}
use Rattle.rtio_types.specs.declared.event.Edge.{Edge}
use Rattle.rtio_types.specs.declared.event.Event.{Event}
use Rattle.rtio_types.specs.Time.{cycle_of}
use Rattle.rtio_input.specs.Script.{are_edges_ok, edge_cycle, edges_up_to, later_edges}
use Rattle.rtio_input.specs.Channel.{Unread, ChannelState, InputsState, nothing_unread}
use Rattle.rtio_input.specs.Channel.{after_edge, after_read, after_overflow}

-- what a request did to the inputs at a counter: it read the
-- first edge of one, it was answered an overflow, or it reset all
pub data InputStep : Type 0 where
  Read : (at channel : ℕ) → InputStep
  Overflowed : (at channel : ℕ) → InputStep
  Reset : (at : ℕ) → InputStep

-- the counter at which it happened
abbrev pub input_step_at : InputStep → ℕ
input_step_at (Read at channel) = at
input_step_at (Overflowed at channel) = at
input_step_at (Reset at) = at

-- the counter of the last reset before a cycle, when one step more is looked at
abbrev pub reset_before : ℕ → Option ℕ → InputStep → Option ℕ
reset_before cycle last (Reset at) = if nat_lt at cycle then Some at else last
reset_before cycle last step = last

-- the counter of the last reset before a cycle, if there is one
abbrev pub last_reset : ℕ → List InputStep → Option ℕ
last_reset cycle steps = fold (reset_before cycle) None steps

-- the cycle is after that reset
abbrev pub is_after : Option ℕ → ℕ → Bool
is_after None cycle = true
is_after (Some at) cycle = nat_lt at cycle

-- the data of the last event, and what was before if there is none
abbrev pub last_value : ℕ → List Event → ℕ
last_value before events = fold (λ _ e. e.value) before events

-- an event that could set the sensitivity at an edge: it is of the edge's channel, its stamp isn't greater, and it was
-- put out after the last reset before the edge
abbrev pub may_set : List InputStep → Edge → Event → Bool
may_set steps x e =
    (e.channel == x.channel) && int_le e.stamp x.stamp && is_after (last_reset (edge_cycle x) steps) (cycle_of e)

-- the sensitivity at an edge: the data of the last such event that was put out, 0 if there is none
abbrev pub sensitivity_at : List Event → List InputStep → Edge → ℕ
sensitivity_at outputs steps x = last_value 0 (filter (may_set steps x) outputs)

-- whether a sensitivity has the edge's bit: bit 0 for rising edges, bit 1 for falling ones
abbrev pub sees : ℕ → Bool → Bool
sees sensitivity rising = if rising then sensitivity % 2 == 1 else sensitivity / 2 % 2 == 1

-- an edge of the channel that is seen
abbrev pub is_seen : List Event → List InputStep → ℕ → Edge → Bool
is_seen outputs steps channel x = (x.channel == channel) && sees (sensitivity_at outputs steps x) x.rising

-- the channel's edges up to a counter that are seen
abbrev pub seen_edges : List Edge → List Event → List InputStep → ℕ → ℕ → List Edge
seen_edges script outputs steps counter channel = filter (is_seen outputs steps channel) (edges_up_to counter script)

-- what is unread after a step
abbrev pub after_step : ℕ → Unread → InputStep → Unread
after_step channel u (Read at k) = if k == channel then after_read u else u
after_step channel u (Overflowed at k) = if k == channel then after_overflow u else u
after_step channel u (Reset at) = nothing_unread

-- what is unread after seen edges and steps. An edge comes after the steps at counters below its cycle, and before all
-- others
abbrev pub unread_from : ℕ → List Edge → List InputStep → Unread → Unread
unread_from channel [] steps u = fold (after_step channel) u steps
unread_from channel (x ∷ edges) steps u =
    unread_from channel edges
    (filter (λ s. nat_le (edge_cycle x) (input_step_at s)) steps)
    (after_edge (fold (after_step channel) u (filter (λ s. nat_lt (input_step_at s) (edge_cycle x)) steps)) x.stamp)

-- what an input has unread at a counter, by the script, the events put out up to the counter, and the steps
abbrev pub unread_at : List Edge → List Event → List InputStep → ℕ → ℕ → Unread
unread_at script outputs steps counter channel =
    unread_from channel (seen_edges script outputs steps counter channel) steps nothing_unread

-- the sensitivity behind all of it: the data of the last event of the channel put out after the last reset
abbrev pub last_sensitivity : List Event → List InputStep → ℕ → ℕ → ℕ
last_sensitivity outputs steps counter channel =
    last_value 0 (filter (λ e. (e.channel == channel) && is_after (last_reset (counter + 1) steps) (cycle_of e)) outputs)

-- the input at a counter
abbrev pub channel_after : List Edge → List Event → List InputStep → ℕ → ℕ → ChannelState
channel_after script outputs steps counter channel = record {
  unread = unread_at script outputs steps counter channel;
  sensitivity = last_sensitivity outputs steps counter channel;
}

-- the events were put out no later than at the counter
abbrev pub are_put_out_by : ℕ → List Event → Bool
are_put_out_by counter outputs = list_all (λ e. nat_le (cycle_of e) counter) outputs

-- the steps were made no later than at the counter
abbrev pub are_made_by : ℕ → List InputStep → Bool
are_made_by counter steps = list_all (λ s. nat_le (input_step_at s) counter) steps

-- the inputs are those that the script, the events put out and the steps leave at the counter
pub record InputsStandFor (s : InputsState) (script : List Edge) (outputs : List Event) (steps : List InputStep) (counter : ℕ) : Type 0 where
  pub ok : IsTrue (are_edges_ok script)
  pub put_out : IsTrue (are_put_out_by counter outputs)
  pub made : IsTrue (are_made_by counter steps)
  pub left : s.left ≡ later_edges counter script
  pub channels : s.channels ≡ map (channel_after script outputs steps counter) (range_with_len 24 8)
