use Rattle.recording_bytes.proofs.Spelled.{right-spells}
use Rattle.recording_bytes.proofs.laws.right_bytes_are_spellings.Goals as goal

pub returns : goal.returns
returns c bytes are = right-spells bytes are
