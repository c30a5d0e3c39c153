use Rattle.std.proofs.Common.{◌+◌, FitsSigned, get_or, pos, to_z, w64, sym, subst}
use Rattle.std.proofs.lemmas.Int.{to_z-of_z}
use Rattle.rtio_types.specs.declared.event.Event.{Event}
use Rattle.recording_bytes.specs.declared.format.Format.TheVariants.{Short}
use Rattle.recording_bytes.specs.Spelling.{spelling}
use Rattle.recording_bytes.proofs.Written.{IsWritten, written-more}
use Rattle.recording_bytes.proofs.writing.encode.Goals as goal

pub loop-event-preserved : goal.loop-event-preserved
loop-event-preserved c =
    let events = c.deref-event-items.result.now in
    let i = c.loop-event.event-index in
    let none : Event = record { channel = 0; address = 0; value = 0; stamp = pos 0 } in
    let all = spelling Short c.args.recording.now in
    let stamp_fits : FitsSigned w64 (get_or events i none).stamp = c.in_ok-write_event.ensures.fits.1 in
    subst (λ stamp. IsWritten all c.write_event.new.bytes.items stamp (i + 1) events) (sym (to_z-of_z w64 (get_or events i none).stamp stamp_fits))
    (written-more all c.loop-event.bytes.items c.write_event.new.bytes.items (to_z w64 c.loop-event.before-bits) i events none c.loop-event-test.true c.loop-event.invariant c.in_ok-write_event.ensures.written c.in_ok-write_event.ensures.fits)
