-- What becomes of an event that is submitted at a counter.
use Rattle.std.specs.Prelude.{ℕ, Bool, not, ◌&&◌, List, [], ◌∷◌, min, map, filter, nat_le, if◌then◌else◌}
use Rattle.rtio_types.specs.declared.event.Event.{Event}
use Rattle.rtio_types.specs.Time.{cycle_of}
use Rattle.sed_lanes.specs.Lanes.{LaneState, LanesState, lane_at, next_lane, is_full_lane, may_enter}

-- the event comes too late; a lane takes it; it is out of sequence; or it has to be asked again later
pub data Verdict : Type 0 where
  Underflow : Verdict
  Lane : (lane : ℕ) → Verdict
  Sequence : Verdict
  Undecided : Verdict

-- the current lane takes the event, if it isn't full and its last cycle is earlier
abbrev pub current_takes : LanesState → Event → Bool
current_takes s e = not (is_full_lane s s.current) && may_enter s s.current e

-- the verdict of the lanes at a counter: the first of the rules that holds
abbrev pub verdict : LanesState → Event → ℕ → Verdict
verdict s e counter =
    if nat_le (cycle_of e) counter then Underflow
    else if current_takes s e then Lane s.current
    else if not (may_enter s (next_lane s) e) then Sequence
    else if not (is_full_lane s (next_lane s)) then Lane (next_lane s)
    else Undecided

-- the cycle of the first held event, at which a full lane gets room
abbrev pub frees_at : LaneState → ℕ
frees_at lane = first_cycle lane.held
  where
    first_cycle : List (ℕ × Event) → ℕ
    first_cycle [] = 0
    first_cycle (p ∷ rest) = cycle_of p.1

-- the least of the numbers, 0 if there is none
abbrev pub least : List ℕ → ℕ
least [] = 0
least (n ∷ []) = n
least (n ∷ m ∷ ms) = min n (least (m ∷ ms))

-- the least cycle that frees a lane which the event may enter
abbrev pub until : LanesState → Event → ℕ
until s e = least (map (λ k. frees_at (lane_at s k)) (filter (λ k. may_enter s k e) (s.current ∷ next_lane s ∷ [])))
