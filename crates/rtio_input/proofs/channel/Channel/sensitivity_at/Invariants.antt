use Rattle.std.proofs.Common.{◌≡◌, take}
use Rattle.rtio_input.specs.Calls.{sensitivity_among}
use Rattle.rtio_input.proofs.channel.Channel.sensitivity_at.Given as goal

abbrev pub invariant-loop-event : goal.invariant-loop-event
invariant-loop-event l = l.sensitivity ≡ sensitivity_among l.initial.sensitivity (take l.event-index l.kept) l.edge
