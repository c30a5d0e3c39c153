-- The lanes as they stand at a counter.
use Rattle.std.specs.Prelude.{ℕ, ◌+◌, ◌%◌, Bool, true, List, [], ◌∷◌, ◌++◌, length, get_or}
use Rattle.std.specs.Prelude.{set, replicate, Option, Some, None, nat_lt, nat_le, flat_map}
use Rattle.rtio_types.specs.declared.event.Event.{Event}
use Rattle.rtio_types.specs.Time.{cycle_of}

-- a lane: the events that it holds, in order, and the cycle of the last event accepted into it, held or not
pub record LaneState : Type 0 where
  pub held : List (ℕ × Event)
  pub last : Option ℕ

-- the lanes in order, how many events fill one, and which is the current one
pub record LanesState : Type 0 where
  pub depth : ℕ
  pub current : ℕ
  pub lanes : List LaneState

abbrev pub empty_lane : LaneState
empty_lane = record { held = []; last = None }

-- lanes into which nothing was accepted
abbrev pub empty_lanes : ℕ → ℕ → LanesState
empty_lanes lanes depth = record { depth = depth; current = 0; lanes = replicate lanes empty_lane }

abbrev pub lane_at : LanesState → ℕ → LaneState
lane_at s k = get_or s.lanes k empty_lane

-- the lane after the current one, wrapping round
abbrev pub next_lane : LanesState → ℕ
next_lane s = (s.current + 1) % length s.lanes

-- the lane holds as many events as it may
abbrev pub is_full_lane : LanesState → ℕ → Bool
is_full_lane s k = nat_le s.depth (length (lane_at s k).held)

-- the cycle is later than the last one, if there is one
abbrev pub is_later : Option ℕ → ℕ → Bool
is_later None cycle = true
is_later (Some last) cycle = nat_lt last cycle

-- the lane's last cycle is before the event's
abbrev pub may_enter : LanesState → ℕ → Event → Bool
may_enter s k e = is_later (lane_at s k).last (cycle_of e)

-- all held events, lane by lane
abbrev pub held_events : LanesState → List (ℕ × Event)
held_events s = flat_map (λ (lane : LaneState). lane.held) s.lanes

-- the lanes with an event accepted into one of them, which becomes the current one
abbrev pub with_accepted : LanesState → ℕ → ℕ → Event → LanesState
with_accepted s k number e = record s {
  current = k;
  lanes = set s.lanes k (record { held = (lane_at s k).held ++ (number, e) ∷ []; last = Some (cycle_of e) });
}
