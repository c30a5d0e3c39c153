use Rattle.std.proofs.Common.{◌≡◌, drop}
use Rattle.slack_meaning.specs.Actions as A
use Rattle.slack_meaning.specs.Timeline.{play_events}
use Rattle.slack_state.specs.Meters.{IsSolvent, metered}
use Rattle.slack_state.proofs.meter.Meter.play_events.Given as goal

abbrev pub invariant-loop-event : goal.invariant-loop-event
invariant-loop-event l =
    ((a : A.State) → play_events l.fn.events l.fn.time (metered a l.fn.self) ≡ play_events (drop l.event-index l.fn.events) l.fn.time (metered a l.self)) × IsSolvent l.self
