-- What a sieve knows of the channels, and what it leaves.
use Rattle.std.specs.Prelude.{◌≡◌, ℕ, ◌+◌, Bool, not, ◌==◌, List, [], ◌∷◌, ◌++◌}
use Rattle.std.specs.Prelude.{filter, if◌then◌else◌, get_or, map, max, nat_lt, set}
use Rattle.std.specs.List.{list_all, range_with_len}
use Rattle.limits.specs.Limits.{channels}
use Rattle.rtio_types.specs.declared.event.Event.{Event}
use Rattle.rtio_types.specs.Time.{cycle_of}
use Rattle.sed_lanes.specs.Heads.{HeadsState}
use Rattle.sed_lanes.specs.Sorting.{sorted}
use Rattle.output_merge.specs.Groups.{is_logged_before}
use Rattle.output_merge.specs.Busy.{hold_of, is_busy}

-- the hold of each channel, and the cycle from which on it isn't busy
pub record HoldsState : Type 0 where
  pub holds : List ℕ
  pub free_from : List ℕ

-- the cycle from which on a channel isn't busy, behind the events that were put out; 0 if none of them is on it
abbrev pub free_from : List ℕ → (channel : ℕ) → List (ℕ × Event) → ℕ
free_from holds channel [] = 0
free_from holds channel (q ∷ out) =
    if q.1.channel == channel
    then max (cycle_of q.1 + hold_of holds channel) (free_from holds channel out)
    else free_from holds channel out

-- the channels behind the events that were put out
abbrev pub holds_after : List ℕ → List (ℕ × Event) → HoldsState
holds_after holds out =
    record { holds = holds; free_from = map (λ channel. free_from holds channel out) (range_with_len 0 channels) }

-- all were put out before this cycle
abbrev pub are_before : ℕ → List (ℕ × Event) → Bool
are_before cycle out = list_all (λ q. nat_lt (cycle_of q.1) cycle) out

-- the keepers that aren't busy stay as they stand; the busy ones come behind
-- those that were there, by channel and number; and those that stay are put out
pub record IsSieved (holds : List ℕ) (out : List (ℕ × Event)) (kept busy : HeadsState) (self : HoldsState) (kept_left busy_left : HeadsState) : Type 0 where
  pub stay : kept_left.items ≡ filter (λ p. not (is_busy holds out p)) kept.items
  pub leave : busy_left.items ≡ busy.items ++ sorted is_logged_before (filter (λ p. is_busy holds out p) kept.items)
  pub held : self ≡ holds_after holds (out ++ kept_left.items)

-- the channel of an event is busy in a cycle
abbrev pub is_held : (free_from : List ℕ) → (cycle : ℕ) → Event → Bool
is_held free_from cycle e = nat_lt cycle (get_or free_from e.channel 0)

-- the event's channel executes it
abbrev pub held_by : HoldsState → Event → HoldsState
held_by s e = record s {
  free_from = set s.free_from e.channel (max (get_or s.free_from e.channel 0) (cycle_of e + hold_of s.holds e.channel));
}
