use Rattle.std.proofs.Common.{rules, refl}
use Rattle.recording_bytes.proofs.Spelled.{spelled-read, spelled-right}
use Rattle.option_values.proofs.recordings.recording_in.Goals as goal

pub returns-in-Ok : goal.returns-in-Ok
returns-in-Ok c =
    let spelled = c.in-Ok.ensures.ok in
    let right = spelled-right spelled.0 c.args.bytes.now c.in-Ok.recording spelled.1 in
    let read = spelled-read spelled.0 c.args.bytes.now c.in-Ok.recording spelled.1 in
    rw (right, read) refl

pub returns-in-Err-Fault : goal.returns-in-Err-Fault
returns-in-Err-Fault c =
    let wrong = (c.decode.ensures.fault c.in-Err-Fault.field-0-0).0 (search rules) in
    λ _. rw wrong refl
