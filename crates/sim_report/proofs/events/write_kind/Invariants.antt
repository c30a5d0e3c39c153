use Rattle.std.proofs.Common.{◌≡◌, ◌++◌, string_bytes, take}
use Rattle.std.specs.Prelude.{flat_map}
use Rattle.rtio_log.specs.Kinds.{lines_of}
use Rattle.sim_report.specs.Lines.{log_line}
use Rattle.sim_report.proofs.events.write_kind.Given as goal

-- the lines of the kind so far are written
abbrev pub invariant-loop-line : goal.invariant-loop-line
invariant-loop-line l = string_bytes l.text ≡ string_bytes l.initial.text ++ flat_map (log_line l.word) (lines_of l.kind (take l.line-index l.log))
