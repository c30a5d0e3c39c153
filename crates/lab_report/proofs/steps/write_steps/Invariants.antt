use Rattle.std.proofs.Common.{◌≡◌, ◌++◌, string_bytes, take}
use Rattle.std.specs.Prelude.{flat_map}
use Rattle.lab_report.specs.Steps.{step_line}
use Rattle.lab_report.proofs.steps.write_steps.Given as goal

-- the lines of the steps so far are written
abbrev pub invariant-loop-entry : goal.invariant-loop-entry
invariant-loop-entry l = string_bytes l.text ≡ string_bytes l.initial.text ++ flat_map step_line (take l.entry-index l.history)
