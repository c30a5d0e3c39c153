-- A lane as the code keeps it.
use Rattle.std.specs.Prelude.{ℕ, ◌^◌, ◌≤◌, ◌<◌, All, Bool, true, false, ◌&&◌, List, [], ◌∷◌, IsTrue}
use Rattle.std.specs.Prelude.{Option, Some, None, nat_lt, nat_le, length, flat_map, map, nat_eq}
use Rattle.std.specs.List.{list_all, IsDistinct}
use Rattle.std.specs.Map.{keys_of}
use Rattle.limits.specs.Limits.{most_depth, most_lanes}
use Rattle.rtio_types.specs.declared.event.Event.{Event}
use Rattle.rtio_types.specs.Time.{cycle_of}
use Rattle.sed_lanes.specs.declared.lane.Lane.{Lane}
use Rattle.sed_lanes.specs.Lanes.{LaneState}

-- what a lane of the code stands for
abbrev pub row_state : Lane → LaneState
row_state lane = record { held = lane.held.items; last = lane.last }

-- each event is of a later cycle than those before it
abbrev pub are_rising : List (ℕ × Event) → Bool
are_rising [] = true
are_rising (p ∷ rest) = list_all (λ q. nat_lt (cycle_of p.1) (cycle_of q.1)) rest && are_rising rest

-- no event is of a later cycle than the last one that was taken
abbrev pub are_up_to : Option ℕ → List (ℕ × Event) → Bool
are_up_to None [] = true
are_up_to None (p ∷ rest) = false
are_up_to (Some last) held = list_all (λ p. nat_le (cycle_of p.1) last) held

-- the last cycle is one that a stamp of 64 bits has
abbrev pub is_small : Option ℕ → Bool
is_small None = true
is_small (Some last) = nat_lt last (2 ^ 60)

-- a lane of so many places: its events rise up to its last cycle, and they fit
pub record IsLane (depth : ℕ) (lane : Lane) : Type 0 where
  pub room : depth ≤ lane.held.capacity
  pub fits : length lane.held.items ≤ depth
  pub rising : IsTrue (are_rising lane.held.items)
  pub up_to_last : IsTrue (are_up_to lane.last lane.held.items)
  pub small : IsTrue (is_small lane.last)

-- all events that some lanes hold, lane by lane
abbrev pub all_held : List Lane → List (ℕ × Event)
all_held lanes = flat_map (λ (lane : LaneState). lane.held) (map row_state lanes)

-- lanes of a dispatcher: 1 to as many as there may be, of 1 to as many places, one of them the current one, and no number twice
pub record AreLanes (depth current : ℕ) (lanes : List Lane) : Type 0 where
  pub depth_least : 1 ≤ depth
  pub depth_most : depth ≤ most_depth
  pub current_there : current < length lanes
  pub lanes_most : length lanes ≤ most_lanes
  pub each : All (IsLane depth) lanes
  pub own_numbers : IsDistinct nat_eq (keys_of (all_held lanes))
