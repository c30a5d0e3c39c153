use Rattle.std.proofs.Common.{◌≡◌, ◌++◌, ◌-◌, drop, length}
use Rattle.code_forms.specs.Lines.{straight}
use Rattle.code_ranges.specs.Room.{HasRoom}
use Rattle.core_code_lines.proofs.lines.put_all.Given as goal

abbrev pub invariant-loop-instr : goal.invariant-loop-instr
invariant-loop-instr l =
    (l.lines.items ++ straight l.now (drop l.instr-index l.fn.instrs) ≡ l.initial.lines.items ++ straight l.fn.mark l.fn.instrs)
    × HasRoom l.now (length l.fn.instrs - l.instr-index)
