use Rattle.core_code_lines.proofs.Longer.{longer}
use Rattle.core_code_lines.proofs.lines.put_all.Goals as goal

pub returns-clause-longer : goal.returns-clause-longer
returns-clause-longer c =
    longer c.args.lines.now.items c.loop-instr.lines.items c.args.mark c.loop-instr.now c.args.instrs.now c.loop-instr.instr-index c.loop-instr-test.false c.loop-instr.invariant.0
