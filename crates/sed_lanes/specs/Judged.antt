-- The history of the lanes: what was submitted and cleared, with the verdicts.
use Rattle.std.specs.Prelude.{ℕ, Bool, true, false, ◌==◌, List, [], ◌∷◌, ◌++◌, map, filter}
use Rattle.std.specs.Prelude.{filter_map, fold, count_by, Option, Some, None, nat_lt, if◌then◌else◌}
use Rattle.std.specs.List.{range_with_len}
use Rattle.rtio_types.specs.declared.event.Event.{Event}
use Rattle.rtio_types.specs.Time.{cycle_of}
use Rattle.sed_lanes.specs.Lanes.{LaneState, LanesState}
use Rattle.sed_lanes.specs.Verdict.{Verdict, Lane, verdict}

-- what happens at a counter: an event is submitted, or the lanes are cleared
pub data LaneStep : Type 0 where
  Submit : (at : ℕ) (event : Event) → LaneStep
  Clear : (at : ℕ) → LaneStep

-- the same with what became of it: a submitted event has its number and its verdict
pub data Judged : Type 0 where
  Submitted : (number at : ℕ) (event : Event) (verdict : Verdict) → Judged
  Cleared : (at : ℕ) → Judged

abbrev pub is_submitted : Judged → Bool
is_submitted (Submitted number at e v) = true
is_submitted (Cleared at) = false

-- the part after the last clearing
abbrev pub since_clearing : List Judged → List Judged
since_clearing judged = fold goes_on [] judged
  where
    goes_on : List Judged → Judged → List Judged
    goes_on so_far (Submitted number at e v) = so_far ++ Submitted number at e v ∷ []
    goes_on so_far (Cleared at) = []

-- the event with its number, if this lane took it
abbrev pub taken_by : ℕ → Judged → Option (ℕ × Event)
taken_by k (Submitted number at e (Lane j)) = if j == k then Some (number, e) else None
taken_by k j = None

-- the events accepted into a lane after the last clearing
abbrev pub accepted_into : ℕ → List Judged → List (ℕ × Event)
accepted_into k judged = filter_map (taken_by k) (since_clearing judged)

-- the cycle of the last event
abbrev pub last_cycle : List (ℕ × Event) → Option ℕ
last_cycle events = fold (λ _ p. Some (cycle_of p.1)) None events

-- the lane of the last event accepted after the last clearing, lane 0 if there is none
abbrev pub current_lane : List Judged → ℕ
current_lane judged = fold moves 0 (since_clearing judged)
  where
    moves : ℕ → Judged → ℕ
    moves current (Submitted number at e (Lane k)) = k
    moves current j = current

-- the lane of these events at a counter: it holds those of a later cycle
abbrev pub lane_of : ℕ → List (ℕ × Event) → LaneState
lane_of counter events = record { held = filter (λ p. nat_lt counter (cycle_of p.1)) events; last = last_cycle events }

-- the lanes at a counter, after this history
abbrev pub lanes_after : (lanes depth : ℕ) → List Judged → ℕ → LanesState
lanes_after lanes depth judged counter = record {
  depth = depth;
  current = current_lane judged;
  lanes = map (λ k. lane_of counter (accepted_into k judged)) (range_with_len 0 lanes);
}

-- the number of the next event to be submitted: how many were
abbrev pub next_number : List Judged → ℕ
next_number judged = count_by is_submitted judged

-- the history with the verdict on each event, by the history before it and the counter at which it was answered
abbrev pub judged : (lanes depth : ℕ) → List LaneStep → List Judged
judged lanes depth steps = fold judges [] steps
  where
    judges : List Judged → LaneStep → List Judged
    judges before (Submit at e) = before ++ Submitted (next_number before) at e (verdict (lanes_after lanes depth before at) e at) ∷ []
    judges before (Clear at) = before ++ Cleared at ∷ []
