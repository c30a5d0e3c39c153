use Rattle.std.proofs.Common.{◌≡◌, drop}
use Rattle.timeline_sem.specs.Timeline.{play_events}
use Rattle.meaning_state.proofs.state.State.play_events.Given as goal

abbrev pub invariant-loop-event : goal.invariant-loop-event
invariant-loop-event l = play_events l.fn.events l.fn.start l.fn.self ≡ play_events (drop l.event-index l.fn.events) l.fn.start l.self
