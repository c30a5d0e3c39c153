-- What a history of the lanes puts out and logs up to a cycle.
use Rattle.std.specs.Prelude.{ℕ, List, map, filter, nat_le}
use Rattle.rtio_types.specs.declared.event.Event.{Event}
use Rattle.rtio_types.specs.Time.{cycle_of}
use Rattle.sed_lanes.specs.Judged.{Judged}
use Rattle.output_merge.specs.Live.{live, cleared, out_of_sequence}
use Rattle.output_merge.specs.Groups.{keepers, collisions}
use Rattle.output_merge.specs.Busy.{busy, put_out}

-- the events up to a cycle
abbrev pub up_to : ℕ → List (ℕ × Event) → List (ℕ × Event)
up_to cycle events = filter (λ p. nat_le (cycle_of p.1) cycle) events

-- the events put out up to a cycle, by stamp and channel: the keepers that aren't busy, with their numbers
abbrev pub put_out_by : (holds : List ℕ) → List Judged → ℕ → List (ℕ × Event)
put_out_by holds judged cycle = up_to cycle (put_out holds (keepers (live judged)))

-- and without them
abbrev pub outputs : (holds : List ℕ) → List Judged → ℕ → List Event
outputs holds judged cycle = map (λ p. p.1) (put_out_by holds judged cycle)

-- what the log tells of each kind
pub record LogLists : Type 0 where
  pub sequence : List (ℕ × Event)
  pub collided : List (ℕ × Event)
  pub busy : List (ℕ × Event)
  pub cleared : List (ℕ × Event)

-- the events out of sequence by number; the collisions and the busy keepers up to a cycle, each by cycle, channel and
-- number; the cleared events by number
abbrev pub logged : (holds : List ℕ) → List Judged → ℕ → LogLists
logged holds judged cycle = record {
  sequence = out_of_sequence judged;
  collided = up_to cycle (collisions (live judged));
  busy = up_to cycle (busy holds (keepers (live judged)));
  cleared = cleared judged;
}
