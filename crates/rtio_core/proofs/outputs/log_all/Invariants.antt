use Rattle.std.proofs.Common.{◌≡◌, ◌+◌, ◌++◌, take}
use Rattle.rtio_core.specs.Lines.{lines_for}
use Rattle.rtio_core.proofs.outputs.log_all.Given as goal

abbrev pub invariant-loop-i : goal.invariant-loop-i
invariant-loop-i l =
    (l.log.lines ≡ l.initial.log.lines ++ lines_for l.kind (take l.i l.from.items))
    × (l.log.room + l.i ≡ l.initial.log.room)
