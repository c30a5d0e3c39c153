use Rattle.std.proofs.Common.{arith}
use Rattle.rtio_input.proofs.Steps.{events-more}
use Rattle.rtio_input.proofs.channels.pass_events.Goals as goal

pub loop-event-preserved : goal.loop-event-preserved
loop-event-preserved c =
    events-more c.args.kept.now c.loop-event.event-index _ c.args.channels.now c.loop-event.channels c.pass_event.new.channels (omega arith)
    c.loop-event.invariant c.pass_event.ensures
