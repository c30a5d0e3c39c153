-- What the calls of the lanes answer and leave.
use Rattle.std.specs.Prelude.{◌≡◌, ℕ, Bool, not, ◌==◌, List, length, map}
use Rattle.std.specs.Prelude.{filter, pos, Option, Some, None, nat_le, nat_lt}
use Rattle.std.specs.List.{list_all}
use Rattle.rtio_types.specs.declared.event.Event.{Event}
use Rattle.rtio_types.specs.Time.{cycle_of}
use Rattle.sed_lanes.specs.declared.lanes.Place.{Place}
use Rattle.sed_lanes.specs.declared.lanes.Place.TheVariants as place
use Rattle.sed_lanes.specs.Lanes.{LaneState, LanesState, lane_at, next_lane, held_events, with_accepted}
use Rattle.sed_lanes.specs.Verdict.{Verdict, Underflow, Lane, Sequence, Undecided, until}
use Rattle.sed_lanes.specs.Judged.{LaneStep, judged, lanes_after}

-- each held event is of a later cycle than the counter
abbrev pub all_held_after : ℕ → LanesState → Bool
all_held_after counter s = list_all (λ p. nat_lt counter (cycle_of p.1)) (held_events s)

-- each held event is of this cycle or a later one
abbrev pub all_held_from : ℕ → LanesState → Bool
all_held_from cycle s = list_all (λ p. nat_le cycle (cycle_of p.1)) (held_events s)

-- the number is greater than that of each held event
abbrev pub is_new_number : ℕ → LanesState → Bool
is_new_number number s = list_all (λ p. nat_lt p.0 number) (held_events s)

-- the answer says what the verdict is
abbrev pub Answers : LanesState → Event → Verdict → Place → Type 0
Answers s e (Lane k) answer = answer ≡ place.Lane k
Answers s e Sequence answer = (last : ℕ) × ((lane_at s (next_lane s)).last ≡ Some last) × (answer ≡ place.Sequence (pos last))
Answers s e Undecided answer = answer ≡ place.Wait (until s e)
Answers s e Underflow answer = ⊥

-- until when an event of this verdict has to wait
abbrev pub wait_of : LanesState → Event → Verdict → Option ℕ
wait_of s e Undecided = Some (until s e)
wait_of s e v = None

-- the lanes after the verdict: an accepted event is held, any other changes nothing
abbrev pub after_verdict : LanesState → ℕ → Event → Verdict → LanesState
after_verdict s number e (Lane k) = with_accepted s k number e
after_verdict s number e v = s

-- the held events of a cycle, lane by lane
abbrev pub held_at : ℕ → LanesState → List (ℕ × Event)
held_at cycle s = filter (λ p. cycle_of p.1 == cycle) (held_events s)

-- the lanes without the events of a cycle
abbrev pub without : ℕ → LanesState → LanesState
without cycle s = record s {
  lanes = map (λ (lane : LaneState). record lane { held = filter (λ p. not (cycle_of p.1 == cycle)) lane.held }) s.lanes;
}

-- the lanes are those that this history leaves at the counter
abbrev pub LanesStandFor : LanesState → List LaneStep → ℕ → Type 0
LanesStandFor s steps counter = s ≡ lanes_after (length s.lanes) s.depth (judged (length s.lanes) s.depth steps) counter
