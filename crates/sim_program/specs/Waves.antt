-- Dumps that have a waveform; the err lines of other bytes.
use Rattle.std.specs.Prelude.{◌≡◌, ℕ, List, ◌++◌, Some, false, true, codes, decimal}
use Rattle.core_analyzer.specs.DumpFields.{first_wrong}
use Rattle.core_analyzer.specs.Dumps.{Dumped, IsSpelling}
use Rattle.core_analyzer.specs.Level.{last_data, level}
use Rattle.core_analyzer.specs.Rising.{are_behind_first_cycle}
use Rattle.core_analyzer.specs.Waveform.{waveform_text}

-- the bytes spell a dump of which each stamp is at least 8
pub record IsWaveDump (bytes : List ℕ) (dump : Dumped) : Type 0 where
  pub spelled : IsSpelling bytes dump
  pub late : are_behind_first_cycle dump.events ≡ true

-- the bytes written are the waveform of the dump that the others spell; read from
-- them alone, the level of a channel at a time is the data of its last event up to it
pub record DrawsWave (bytes written : List ℕ) : Type 0 where
  pub dump : Dumped
  pub taken : IsWaveDump bytes dump
  pub drawn : written ≡ waveform_text dump.events
  pub levels : (channel time : ℕ) → level written channel time ≡ last_data dump.events channel time

-- the line of bytes that spell no dump: where the first wrong field begins
abbrev pub dump_line : ℕ → List ℕ
dump_line offset = codes "dump " ++ decimal offset ++ codes "\n"

-- the line of a dump with a stamp below 8
abbrev pub early_line : List ℕ
early_line = codes "dump early\n"

-- why bytes have no waveform, and the line that says so
pub data IsDumpRefused (bytes told : List ℕ) : Type 0 where
  no_dump : (offset : ℕ) → first_wrong bytes ≡ Some offset → told ≡ dump_line offset → IsDumpRefused bytes told
  early : (dump : Dumped) → IsSpelling bytes dump → are_behind_first_cycle dump.events ≡ false → told ≡ early_line → IsDumpRefused bytes told
