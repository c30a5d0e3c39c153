use Rattle.std.proofs.Common.{◌≡◌, ◌++◌, string_bytes, take}
use Rattle.std.specs.Prelude.{flat_map}
use Rattle.lab_report.specs.Data.{dataset_line}
use Rattle.lab_report.proofs.datasets.write_datasets.Given as goal

-- the lines of the datasets so far are written
abbrev pub invariant-loop-position : goal.invariant-loop-position
invariant-loop-position l = string_bytes l.text ≡ string_bytes l.initial.text ++ flat_map dataset_line (take l.position l.datasets)
