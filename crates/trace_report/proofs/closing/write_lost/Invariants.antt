use Rattle.std.proofs.Common.{◌≡◌, ◌++◌, flat_map, string_bytes, take}
use Rattle.trace_report.specs.Lines.{lost_line}
use Rattle.trace_report.proofs.closing.write_lost.Given as goal

-- the lines of the outputs so far are written
abbrev pub invariant-loop-output : goal.invariant-loop-output
invariant-loop-output l = string_bytes l.text ≡ string_bytes l.initial.text ++ flat_map lost_line (take l.output-index l.outputs)
