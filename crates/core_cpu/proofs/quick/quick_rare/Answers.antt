use Rattle.std.proofs.Common.{rules}
use Rattle.core_cpu.specs.declared.course.Course.TheVariants.{Silent}
use Rattle.core_cpu.proofs.Here.{right_here, mark_here, fits_here, changes_follow, plain_follow, shift_exists}
use Rattle.core_cpu.proofs.Settling.{counted_can, counted_turn}
use Rattle.core_cpu.proofs.quick.quick_rare.Goals as goal

pub change_one-requires-clause-fits : goal.change_one-requires-clause-fits
change_one-requires-clause-fits c = fits_here c.args.code.now c.count.new.self c.args.instr.now (counted_can c.args.code.now c.args.state.now c.count.new.self c.args.instr.now c.count.ensures c.requires) 1 1 (changes_follow c.args.code.now c.count.new.self.machine.top.function c.count.new.self.machine.top.place (mark_here c.args.code.now c.count.new.self c.args.instr.now (counted_can c.args.code.now c.args.state.now c.count.new.self c.args.instr.now c.count.ensures c.requires)) c.args.instr.now (search rules) (right_here c.args.code.now c.count.new.self c.args.instr.now (counted_can c.args.code.now c.args.state.now c.count.new.self c.args.instr.now c.count.ensures c.requires)).follow)

pub returns-in-Neg-clause-quick : goal.returns-in-Neg-clause-quick
returns-in-Neg-clause-quick c = counted_turn c.args.code.now c.args.state.now c.count.new.self c.change_one.new.state c.args.instr.now (Silent c.change_one.result) c.count.ensures (c.change_one.ensures c.args.code.now)

pub combine_plain-requires-clause-width : goal.combine_plain-requires-clause-width
combine_plain-requires-clause-width c = shift_exists c.args.code.now c.count-in-And.new.self.machine.top.function c.args.instr.now (right_here c.args.code.now c.count-in-And.new.self c.args.instr.now (counted_can c.args.code.now c.args.state.now c.count-in-And.new.self c.args.instr.now c.count-in-And.ensures c.requires)).exist

pub combine_plain-requires-clause-fits : goal.combine_plain-requires-clause-fits
combine_plain-requires-clause-fits c = fits_here c.args.code.now c.count-in-And.new.self c.args.instr.now (counted_can c.args.code.now c.args.state.now c.count-in-And.new.self c.args.instr.now c.count-in-And.ensures c.requires) 2 1 (plain_follow c.args.code.now c.count-in-And.new.self.machine.top.function c.count-in-And.new.self.machine.top.place (mark_here c.args.code.now c.count-in-And.new.self c.args.instr.now (counted_can c.args.code.now c.args.state.now c.count-in-And.new.self c.args.instr.now c.count-in-And.ensures c.requires)) c.args.instr.now (search rules) (right_here c.args.code.now c.count-in-And.new.self c.args.instr.now (counted_can c.args.code.now c.args.state.now c.count-in-And.new.self c.args.instr.now c.count-in-And.ensures c.requires)).follow)

pub returns-in-And-clause-quick : goal.returns-in-And-clause-quick
returns-in-And-clause-quick c = counted_turn c.args.code.now c.args.state.now c.count-in-And.new.self c.combine_plain.new.state c.args.instr.now (Silent c.combine_plain.result) c.count-in-And.ensures (c.combine_plain.ensures c.args.code.now)
