-- The recordings that are kept, as text.
use Rattle.std.specs.Prelude.{◌≡◌, ℕ, List, ◌++◌, flat_map, codes, Some}
use Rattle.hex.specs.Hex.{encode_lower}
use Rattle.rtio_types.specs.Recordings.{Recorded}
use Rattle.recording_bytes.specs.declared.format.Format.TheVariants.{Short}
use Rattle.recording_bytes.specs.Spelling.{spelling}
use Rattle.dma_store.specs.Kept.{KeptState, recording_named}
use Rattle.rtio_core.specs.Core.{CoreState}
use Rattle.rtio_core.specs.Entries.{kept_after}

-- the line of a recording: its name, and its bytes in format 2 as lower-case hex digits
abbrev pub recording_line : List ℕ × Recorded → List ℕ
recording_line kept = codes "dma " ++ kept.0 ++ codes " " ++ encode_lower (spelling Short kept.1) ++ codes "\n"

-- the lines of those that are kept, in their order
abbrev pub dma_text : CoreState → List ℕ
dma_text core = flat_map recording_line (kept_after core.config core.history).entries

-- a recording is kept under the name
abbrev pub IsKept : KeptState → List ℕ → Type 0
IsKept kept name = (recording : Recorded) × (recording_named kept name ≡ Some recording)
