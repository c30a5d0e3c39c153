use Rattle.std.proofs.Common.{◌≡◌, string_bytes, take}
use Rattle.std.specs.Prelude.{flat_map}
use Rattle.lab_report.specs.Report.{cores_from}
use Rattle.lab_report.proofs.cores.lines_of_cores.Given as goal

-- the lines of the cores so far
abbrev pub invariant-loop-core : goal.invariant-loop-core
invariant-loop-core l = (flat_map string_bytes l.lines.items ≡ cores_from 0 (take l.core-index l.cores)) × (l.pipeline ≡ l.core-index)
