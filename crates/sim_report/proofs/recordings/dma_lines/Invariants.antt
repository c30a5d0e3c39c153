use Rattle.std.proofs.Common.{◌≡◌, string_bytes, take}
use Rattle.std.specs.Prelude.{flat_map}
use Rattle.rtio_core.specs.Entries.{kept_after}
use Rattle.sim_report.specs.Recordings.{recording_line}
use Rattle.sim_report.proofs.recordings.dma_lines.Given as goal

-- the lines of the recordings so far are written
abbrev pub invariant-loop-position : goal.invariant-loop-position
invariant-loop-position l = string_bytes l.text ≡ flat_map recording_line (take l.position (kept_after l.core.config l.core.history).entries)
