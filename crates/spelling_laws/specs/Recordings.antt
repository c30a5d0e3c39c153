-- What is read from the bytes of a recording.
use Rattle.std.specs.Prelude.{◌≡◌, ℕ, List, None}
use Rattle.rtio_types.specs.Recordings.{Recorded}
use Rattle.recording_bytes.specs.declared.format.Format.{Format}
use Rattle.recording_bytes.specs.Reading.{format_read, recording_read}
use Rattle.recording_bytes.specs.Fields.{first_wrong}

-- the bytes have no wrong field; format and recording are those that are read from them
pub record IsReadIn (format : Format) (bytes : List ℕ) (recording : Recorded) : Type 0 where
  pub right : first_wrong bytes ≡ None
  pub format_is : format_read bytes ≡ format
  pub recording_is : recording_read bytes ≡ recording
