use Rattle.std.proofs.Common.{◌≡◌, take}
use Rattle.rtio_input.specs.Calls.{after_events, each_channel}
use Rattle.rtio_input.proofs.channels.pass_events.Given as goal

abbrev pub invariant-loop-event : goal.invariant-loop-event
invariant-loop-event l = l.channels ≡ each_channel (after_events (take l.event-index l.kept)) l.initial.channels
