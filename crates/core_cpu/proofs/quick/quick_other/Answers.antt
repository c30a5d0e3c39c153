use Rattle.std.proofs.Common.{◌≤◌, length, arith}
use Rattle.core_isa.specs.declared.instr.Instr.TheVariants as I
use Rattle.core_cpu.specs.Courses.{Fits}
use Rattle.core_cpu.specs.declared.course.Course.TheVariants.{Silent}
use Rattle.core_cpu.proofs.Here.{fits_here, follow_here, turned}
use Rattle.core_cpu.proofs.Settling.{counted_can, counted_turn}
use Rattle.core_cpu.proofs.quick.quick_other.Goals as goal

pub operand-requires : goal.operand-requires
operand-requires c =
    let fits : Fits 2 1 c.args.state.now =
    fits_here c.args.code.now c.args.state.now c.args.instr.now c.requires 2 1 (follow_here c.args.code.now c.args.state.now c.args.instr.now c.requires I.Mod c.in-Mod.is) in
    let enough : 2 ≤ length c.args.state.now.machine.top.operands = fits.enough in
    omega arith

pub modulo-requires-clause-fits : goal.modulo-requires-clause-fits
modulo-requires-clause-fits c = fits_here c.args.code.now c.count-in-Mod.new.self c.args.instr.now (counted_can c.args.code.now c.args.state.now c.count-in-Mod.new.self c.args.instr.now c.count-in-Mod.ensures c.requires) 2 1 (follow_here c.args.code.now c.count-in-Mod.new.self c.args.instr.now (counted_can c.args.code.now c.args.state.now c.count-in-Mod.new.self c.args.instr.now c.count-in-Mod.ensures c.requires) I.Mod c.in-Mod.is)

pub returns-else-operand-eq0-clause-quick : goal.returns-else-operand-eq0-clause-quick
returns-else-operand-eq0-clause-quick c = counted_turn c.args.code.now c.args.state.now c.count-in-Mod.new.self c.modulo.new.state c.args.instr.now (Silent c.modulo.result) c.count-in-Mod.ensures (turned c.args.code.now c.args.instr.now I.Mod c.count-in-Mod.new.self c.modulo.new.state (Silent c.modulo.result) c.in-Mod.is (c.modulo.ensures c.args.code.now))

pub pop-requires : goal.pop-requires
pop-requires c = fits_here c.args.code.now c.count.new.self c.args.instr.now (counted_can c.args.code.now c.args.state.now c.count.new.self c.args.instr.now c.count.ensures c.requires) 1 0 (follow_here c.args.code.now c.count.new.self c.args.instr.now (counted_can c.args.code.now c.args.state.now c.count.new.self c.args.instr.now c.count.ensures c.requires) I.Pop c.in-Pop.is)

pub returns-in-Pop-clause-quick : goal.returns-in-Pop-clause-quick
returns-in-Pop-clause-quick c = counted_turn c.args.code.now c.args.state.now c.count.new.self c.pop.new.state c.args.instr.now (Silent c.pop.result) c.count.ensures (turned c.args.code.now c.args.instr.now I.Pop c.count.new.self c.pop.new.state (Silent c.pop.result) c.in-Pop.is (c.pop.ensures c.args.code.now))

pub dup-requires : goal.dup-requires
dup-requires c = fits_here c.args.code.now c.count-in-Dup.new.self c.args.instr.now (counted_can c.args.code.now c.args.state.now c.count-in-Dup.new.self c.args.instr.now c.count-in-Dup.ensures c.requires) 1 2 (follow_here c.args.code.now c.count-in-Dup.new.self c.args.instr.now (counted_can c.args.code.now c.args.state.now c.count-in-Dup.new.self c.args.instr.now c.count-in-Dup.ensures c.requires) I.Dup c.in-Dup.is)

pub returns-in-Dup-clause-quick : goal.returns-in-Dup-clause-quick
returns-in-Dup-clause-quick c = counted_turn c.args.code.now c.args.state.now c.count-in-Dup.new.self c.dup.new.state c.args.instr.now (Silent c.dup.result) c.count-in-Dup.ensures (turned c.args.code.now c.args.instr.now I.Dup c.count-in-Dup.new.self c.dup.new.state (Silent c.dup.result) c.in-Dup.is (c.dup.ensures c.args.code.now))

pub now-requires : goal.now-requires
now-requires c = fits_here c.args.code.now c.count-in-Now.new.self c.args.instr.now (counted_can c.args.code.now c.args.state.now c.count-in-Now.new.self c.args.instr.now c.count-in-Now.ensures c.requires) 0 1 (follow_here c.args.code.now c.count-in-Now.new.self c.args.instr.now (counted_can c.args.code.now c.args.state.now c.count-in-Now.new.self c.args.instr.now c.count-in-Now.ensures c.requires) I.Now c.in-Now.is)

pub returns-in-Now-clause-quick : goal.returns-in-Now-clause-quick
returns-in-Now-clause-quick c = counted_turn c.args.code.now c.args.state.now c.count-in-Now.new.self c.now.new.state c.args.instr.now (Silent c.now.result) c.count-in-Now.ensures (turned c.args.code.now c.args.instr.now I.Now c.count-in-Now.new.self c.now.new.state (Silent c.now.result) c.in-Now.is (c.now.ensures c.args.code.now))

pub at-requires : goal.at-requires
at-requires c = fits_here c.args.code.now c.count-in-At.new.self c.args.instr.now (counted_can c.args.code.now c.args.state.now c.count-in-At.new.self c.args.instr.now c.count-in-At.ensures c.requires) 1 0 (follow_here c.args.code.now c.count-in-At.new.self c.args.instr.now (counted_can c.args.code.now c.args.state.now c.count-in-At.new.self c.args.instr.now c.count-in-At.ensures c.requires) I.At c.in-At.is)

pub returns-in-At-clause-quick : goal.returns-in-At-clause-quick
returns-in-At-clause-quick c = counted_turn c.args.code.now c.args.state.now c.count-in-At.new.self c.at.new.state c.args.instr.now (Silent c.at.result) c.count-in-At.ensures (turned c.args.code.now c.args.instr.now I.At c.count-in-At.new.self c.at.new.state (Silent c.at.result) c.in-At.is (c.at.ensures c.args.code.now))

pub delay-requires : goal.delay-requires
delay-requires c = fits_here c.args.code.now c.count-in-Delay.new.self c.args.instr.now (counted_can c.args.code.now c.args.state.now c.count-in-Delay.new.self c.args.instr.now c.count-in-Delay.ensures c.requires) 1 0 (follow_here c.args.code.now c.count-in-Delay.new.self c.args.instr.now (counted_can c.args.code.now c.args.state.now c.count-in-Delay.new.self c.args.instr.now c.count-in-Delay.ensures c.requires) I.Delay c.in-Delay.is)

pub returns-in-Delay-clause-quick : goal.returns-in-Delay-clause-quick
returns-in-Delay-clause-quick c = counted_turn c.args.code.now c.args.state.now c.count-in-Delay.new.self c.delay.new.state c.args.instr.now (Silent c.delay.result) c.count-in-Delay.ensures (turned c.args.code.now c.args.instr.now I.Delay c.count-in-Delay.new.self c.delay.new.state (Silent c.delay.result) c.in-Delay.is (c.delay.ensures c.args.code.now))
