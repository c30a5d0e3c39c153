use Rattle.std.proofs.Common.{◌≡◌, ◌++◌, string_bytes, take}
use Rattle.std.specs.Prelude.{flat_map}
use Rattle.sim_report.specs.Lines.{spaced}
use Rattle.sim_report.proofs.closing.write_lanes.Given as goal

-- the numbers so far are written
abbrev pub invariant-loop-peak : goal.invariant-loop-peak
invariant-loop-peak l = string_bytes l.text ≡ string_bytes l.initial.text ++ flat_map spaced (take l.peak-index l.peaks)
