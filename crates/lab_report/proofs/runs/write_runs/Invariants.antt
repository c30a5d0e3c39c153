use Rattle.std.proofs.Common.{◌≡◌, ◌++◌, string_bytes, take}
use Rattle.std.specs.Prelude.{flat_map}
use Rattle.lab_report.specs.Runs.{run_line}
use Rattle.lab_report.proofs.runs.write_runs.Given as goal

-- the lines of the runs so far are written
abbrev pub invariant-loop-run : goal.invariant-loop-run
invariant-loop-run l = string_bytes l.text ≡ string_bytes l.initial.text ++ flat_map run_line (take l.run-index l.runs)
