use Rattle.std.proofs.Common.{◌≡◌, refl, ap, subst, ◌∙◌}
use Rattle.rtio_types.specs.Recordings.{Recorded}
use Rattle.recording_bytes.specs.declared.format.Format.{Format}
use Rattle.recording_bytes.specs.declared.format.Format.TheVariants.{Fixed, Short}
use Rattle.recording_bytes.specs.Reading.{format_read, recording_read}
use Rattle.recording_bytes.specs.Spelling.{IsSpellingIn, spelling}
use Rattle.recording_bytes.proofs.Spelled.{read-spells, spelled-read, spelled-right}
use Rattle.spelling_laws.proofs.recordings.recordings_are_read_as_spelled.Goals as goal

-- the first byte of a spelling says its format
format-spelled : (format : Format) (recording : Recorded) → format_read (spelling format recording) ≡ format
format-spelled Fixed recording = refl
format-spelled Short recording = refl

pub returns-clause-read : goal.returns-clause-read
returns-clause-read c format bytes recording s = record {
  right = spelled-right format bytes recording s;
  format_is = ap format_read s.spelled ∙ format-spelled format recording;
  recording_is = spelled-read format bytes recording s;
}

pub returns-clause-spelled : goal.returns-clause-spelled
returns-clause-spelled c format bytes recording are read =
    subst (IsSpellingIn format bytes) read.recording_is
    (subst (λ (f : Format). IsSpellingIn f bytes (recording_read bytes)) read.format_is
    (read-spells bytes (record { below = are }) read.right))
