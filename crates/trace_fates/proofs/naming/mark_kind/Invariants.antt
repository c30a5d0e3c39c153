use Rattle.std.proofs.Common.{◌≡◌, take}
use Rattle.std.specs.Prelude.{map}
use Rattle.rtio_log.specs.Kinds.{lines_of}
use Rattle.trace_fates.specs.Passes.{AreNumberedFrom, marked}
use Rattle.trace_fates.proofs.naming.mark_kind.Given as goal

-- those that the lines so far name are marked
abbrev pub invariant-loop-line : goal.invariant-loop-line
invariant-loop-line l = record {
  outputs : l.outputs ≡ map (marked l.fate (lines_of l.kind (take l.line-index l.log))) l.initial.outputs;
  numbers : AreNumberedFrom 0 l.outputs;
}
