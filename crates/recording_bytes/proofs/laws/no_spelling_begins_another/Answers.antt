use Rattle.recording_bytes.proofs.Spelled.{prefix-free}
use Rattle.recording_bytes.proofs.laws.no_spelling_begins_another.Goals as goal

pub returns : goal.returns
returns c front rest first second s t = prefix-free front rest first second s t
