use Rattle.recording_bytes.specs.declared.format.Format.TheVariants.{Short}
use Rattle.recording_bytes.specs.Spelling.{spelling}
use Rattle.recording_bytes.proofs.Written.{IsWritten}
use Rattle.recording_bytes.proofs.writing.encode.Given as goal

abbrev pub invariant-loop-event : goal.invariant-loop-event
invariant-loop-event l =
    IsWritten (spelling Short l.recording) l.bytes.items l.before l.event-index l.event-items
