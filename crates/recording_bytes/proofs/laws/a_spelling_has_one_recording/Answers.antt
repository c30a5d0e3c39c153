use Rattle.recording_bytes.proofs.Spelled.{one-recording}
use Rattle.recording_bytes.proofs.laws.a_spelling_has_one_recording.Goals as goal

pub returns : goal.returns
returns c bytes first second s t = one-recording bytes first second s t
