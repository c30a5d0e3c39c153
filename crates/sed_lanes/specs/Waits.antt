-- How long an undecided event waits.
use Rattle.std.specs.Prelude.{◌≡◌, ◌≢◌, ◌<◌, ◌≤◌, ℕ}
use Rattle.rtio_types.specs.declared.event.Event.{Event}
use Rattle.rtio_types.specs.Time.{cycle_of}
use Rattle.sed_lanes.specs.Lanes.{LanesState}
use Rattle.sed_lanes.specs.Verdict.{Undecided, verdict}

-- with the lanes that stand at each counter, the event is undecided from one counter on up to a later one, and decided
-- from then on; and that later counter is before the event's own cycle
pub record WaitsUntil (lanes_at : ℕ → LanesState) (e : Event) (from until : ℕ) : Type 0 where
  pub later : from < until
  pub in_time : until < cycle_of e
  pub waits : (counter : ℕ) → from ≤ counter → counter < until → verdict (lanes_at counter) e counter ≡ Undecided
  pub decided : (counter : ℕ) → until ≤ counter → verdict (lanes_at counter) e counter ≢ Undecided
