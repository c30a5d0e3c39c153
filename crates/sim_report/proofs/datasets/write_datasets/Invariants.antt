use Rattle.std.proofs.Common.{◌≡◌, ◌++◌, string_bytes, take}
use Rattle.std.specs.Prelude.{flat_map}
use Rattle.sim_report.specs.Datasets.{datasets_of}
use Rattle.sim_report.specs.Lines.{data_line}
use Rattle.sim_report.proofs.datasets.write_datasets.Given as goal

-- the lines of the datasets so far are written
abbrev pub invariant-loop-position : goal.invariant-loop-position
invariant-loop-position l = string_bytes l.text ≡ string_bytes l.initial.text ++ flat_map data_line (take l.position (datasets_of l.history))
