use Rattle.std.proofs.Common.{◌++◌, pos, refl}
use Rattle.rtio_types.specs.declared.event.Event.{Event}
use Rattle.recording_bytes.specs.Spelling.{fixed_spelling}
use Rattle.core_analyzer.specs.Dumps.{FitsEvent, events_bytes}
use Rattle.core_analyzer.proofs.DumpLoops.{written-more}
use Rattle.core_analyzer.proofs.writing.write_events.Goals as goal

pub loop-event-preserved : goal.loop-event-preserved
loop-event-preserved c =
    let events = c.args.events.now in
    let none : Event = record { channel = 0; address = 0; value = 0; stamp = pos 0 } in
    written-more events_bytes fixed_spelling FitsEvent (c.args.bytes.now.items ++ events_bytes events) c.loop-event.bytes.items c.write_event.new.bytes.items c.loop-event.event-index events none (λ x others. refl) c.loop-event-test.true c.loop-event.invariant c.in_ok-write_event.ensures.written c.in_ok-write_event.ensures.fits
