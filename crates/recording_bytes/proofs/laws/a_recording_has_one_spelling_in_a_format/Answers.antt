use Rattle.std.proofs.Common.{sym, ◌∙◌}
use Rattle.recording_bytes.proofs.laws.a_recording_has_one_spelling_in_a_format.Goals as goal

pub returns : goal.returns
returns c format first second recording s t = s.spelled ∙ sym t.spelled
