use Rattle.std.proofs.Common.{◌+◌, ◌-◌, ◌≤◌, suc, length, subst, rules, arith}
use Rattle.std.proofs.lemmas.Int.{to_z-of_z}
use Rattle.core_isa.specs.Machine.{push}
use Rattle.core_isa.specs.declared.instr.Instr.TheVariants as I
use Rattle.core_cpu.specs.Courses.{Fits, TurnsTo}
use Rattle.core_cpu.specs.declared.course.Course.TheVariants.{Silent}
use Rattle.core_cpu.proofs.Here.{fits_here, slots_here, exist_here, follow_here, turned}
use Rattle.core_cpu.proofs.Settling.{counted_can, counted_turn}
use Rattle.core_cpu.proofs.quick.quick.Goals as goal

pub gives-requires-clause-room : goal.gives-requires-clause-room
gives-requires-clause-room c = let fits : Fits 0 1 c.count.new.self = fits_here c.args.code.now c.count.new.self c.args.instr.now (counted_can c.args.code.now c.args.state.now c.count.new.self c.args.instr.now c.count.ensures c.requires) 0 1 (follow_here c.args.code.now c.count.new.self c.args.instr.now (counted_can c.args.code.now c.args.state.now c.count.new.self c.args.instr.now c.count.ensures c.requires) (I.Const c.in-Const.value) c.in-Const.is) in let room : length c.count.new.self.machine.top.operands - 0 + 1 ≤ 255 = fits.room in omega arith

pub gives-requires-clause-place : goal.gives-requires-clause-place
gives-requires-clause-place c = (fits_here c.args.code.now c.count.new.self c.args.instr.now (counted_can c.args.code.now c.args.state.now c.count.new.self c.args.instr.now c.count.ensures c.requires) 0 1 (follow_here c.args.code.now c.count.new.self c.args.instr.now (counted_can c.args.code.now c.args.state.now c.count.new.self c.args.instr.now c.count.ensures c.requires) (I.Const c.in-Const.value) c.in-Const.is)).place

pub returns-in-Const-clause-quick : goal.returns-in-Const-clause-quick
returns-in-Const-clause-quick c = counted_turn c.args.code.now c.args.state.now c.count.new.self c.gives.new.state c.args.instr.now (Silent c.gives.result) c.count.ensures (turned c.args.code.now c.args.instr.now (I.Const c.in-Const.value) c.count.new.self c.gives.new.state (Silent c.gives.result) c.in-Const.is (subst (λ v. TurnsTo (push v) c.count.new.self (Silent c.gives.result) c.gives.new.state) (search (rules, to_z-of_z)) c.gives.ensures.turns))

pub load-requires-clause-slot : goal.load-requires-clause-slot
load-requires-clause-slot c = slots_here c.args.code.now c.count-in-Load.new.self c.args.instr.now (counted_can c.args.code.now c.args.state.now c.count-in-Load.new.self c.args.instr.now c.count-in-Load.ensures c.requires) (suc c.in-Load.slot) (exist_here c.args.code.now c.count-in-Load.new.self c.args.instr.now (counted_can c.args.code.now c.args.state.now c.count-in-Load.new.self c.args.instr.now c.count-in-Load.ensures c.requires) (I.Load c.in-Load.slot) c.in-Load.is)

pub load-requires-clause-fits : goal.load-requires-clause-fits
load-requires-clause-fits c = fits_here c.args.code.now c.count-in-Load.new.self c.args.instr.now (counted_can c.args.code.now c.args.state.now c.count-in-Load.new.self c.args.instr.now c.count-in-Load.ensures c.requires) 0 1 (follow_here c.args.code.now c.count-in-Load.new.self c.args.instr.now (counted_can c.args.code.now c.args.state.now c.count-in-Load.new.self c.args.instr.now c.count-in-Load.ensures c.requires) (I.Load c.in-Load.slot) c.in-Load.is)

pub returns-in-Load-clause-quick : goal.returns-in-Load-clause-quick
returns-in-Load-clause-quick c = counted_turn c.args.code.now c.args.state.now c.count-in-Load.new.self c.load.new.state c.args.instr.now (Silent c.load.result) c.count-in-Load.ensures (turned c.args.code.now c.args.instr.now (I.Load c.in-Load.slot) c.count-in-Load.new.self c.load.new.state (Silent c.load.result) c.in-Load.is (c.load.ensures c.args.code.now))

pub store-requires-clause-slot : goal.store-requires-clause-slot
store-requires-clause-slot c = slots_here c.args.code.now c.count-in-Store.new.self c.args.instr.now (counted_can c.args.code.now c.args.state.now c.count-in-Store.new.self c.args.instr.now c.count-in-Store.ensures c.requires) (suc c.in-Store.slot) (exist_here c.args.code.now c.count-in-Store.new.self c.args.instr.now (counted_can c.args.code.now c.args.state.now c.count-in-Store.new.self c.args.instr.now c.count-in-Store.ensures c.requires) (I.Store c.in-Store.slot) c.in-Store.is)

pub store-requires-clause-fits : goal.store-requires-clause-fits
store-requires-clause-fits c = fits_here c.args.code.now c.count-in-Store.new.self c.args.instr.now (counted_can c.args.code.now c.args.state.now c.count-in-Store.new.self c.args.instr.now c.count-in-Store.ensures c.requires) 1 0 (follow_here c.args.code.now c.count-in-Store.new.self c.args.instr.now (counted_can c.args.code.now c.args.state.now c.count-in-Store.new.self c.args.instr.now c.count-in-Store.ensures c.requires) (I.Store c.in-Store.slot) c.in-Store.is)

pub returns-in-Store-clause-quick : goal.returns-in-Store-clause-quick
returns-in-Store-clause-quick c = counted_turn c.args.code.now c.args.state.now c.count-in-Store.new.self c.store.new.state c.args.instr.now (Silent c.store.result) c.count-in-Store.ensures (turned c.args.code.now c.args.instr.now (I.Store c.in-Store.slot) c.count-in-Store.new.self c.store.new.state (Silent c.store.result) c.in-Store.is (c.store.ensures c.args.code.now))

pub add-requires : goal.add-requires
add-requires c = fits_here c.args.code.now c.count-in-Add.new.self c.args.instr.now (counted_can c.args.code.now c.args.state.now c.count-in-Add.new.self c.args.instr.now c.count-in-Add.ensures c.requires) 2 1 (follow_here c.args.code.now c.count-in-Add.new.self c.args.instr.now (counted_can c.args.code.now c.args.state.now c.count-in-Add.new.self c.args.instr.now c.count-in-Add.ensures c.requires) I.Add c.in-Add.is)

pub returns-in-Add-clause-quick : goal.returns-in-Add-clause-quick
returns-in-Add-clause-quick c = counted_turn c.args.code.now c.args.state.now c.count-in-Add.new.self c.add.new.state c.args.instr.now (Silent c.add.result) c.count-in-Add.ensures (turned c.args.code.now c.args.instr.now I.Add c.count-in-Add.new.self c.add.new.state (Silent c.add.result) c.in-Add.is (c.add.ensures c.args.code.now))

pub subtract-requires : goal.subtract-requires
subtract-requires c = fits_here c.args.code.now c.count-in-Sub.new.self c.args.instr.now (counted_can c.args.code.now c.args.state.now c.count-in-Sub.new.self c.args.instr.now c.count-in-Sub.ensures c.requires) 2 1 (follow_here c.args.code.now c.count-in-Sub.new.self c.args.instr.now (counted_can c.args.code.now c.args.state.now c.count-in-Sub.new.self c.args.instr.now c.count-in-Sub.ensures c.requires) I.Sub c.in-Sub.is)

pub returns-in-Sub-clause-quick : goal.returns-in-Sub-clause-quick
returns-in-Sub-clause-quick c = counted_turn c.args.code.now c.args.state.now c.count-in-Sub.new.self c.subtract.new.state c.args.instr.now (Silent c.subtract.result) c.count-in-Sub.ensures (turned c.args.code.now c.args.instr.now I.Sub c.count-in-Sub.new.self c.subtract.new.state (Silent c.subtract.result) c.in-Sub.is (c.subtract.ensures c.args.code.now))

pub multiply-requires : goal.multiply-requires
multiply-requires c = fits_here c.args.code.now c.count-in-Mul.new.self c.args.instr.now (counted_can c.args.code.now c.args.state.now c.count-in-Mul.new.self c.args.instr.now c.count-in-Mul.ensures c.requires) 2 1 (follow_here c.args.code.now c.count-in-Mul.new.self c.args.instr.now (counted_can c.args.code.now c.args.state.now c.count-in-Mul.new.self c.args.instr.now c.count-in-Mul.ensures c.requires) I.Mul c.in-Mul.is)

pub returns-in-Mul-clause-quick : goal.returns-in-Mul-clause-quick
returns-in-Mul-clause-quick c = counted_turn c.args.code.now c.args.state.now c.count-in-Mul.new.self c.multiply.new.state c.args.instr.now (Silent c.multiply.result) c.count-in-Mul.ensures (turned c.args.code.now c.args.instr.now I.Mul c.count-in-Mul.new.self c.multiply.new.state (Silent c.multiply.result) c.in-Mul.is (c.multiply.ensures c.args.code.now))

pub compare-requires : goal.compare-requires
compare-requires c = fits_here c.args.code.now c.count-in-Lt.new.self c.args.instr.now (counted_can c.args.code.now c.args.state.now c.count-in-Lt.new.self c.args.instr.now c.count-in-Lt.ensures c.requires) 2 1 (follow_here c.args.code.now c.count-in-Lt.new.self c.args.instr.now (counted_can c.args.code.now c.args.state.now c.count-in-Lt.new.self c.args.instr.now c.count-in-Lt.ensures c.requires) I.Lt c.in-Lt.is)

pub returns-in-Lt-clause-quick : goal.returns-in-Lt-clause-quick
returns-in-Lt-clause-quick c = counted_turn c.args.code.now c.args.state.now c.count-in-Lt.new.self c.compare.new.state c.args.instr.now (Silent c.compare.result) c.count-in-Lt.ensures (turned c.args.code.now c.args.instr.now I.Lt c.count-in-Lt.new.self c.compare.new.state (Silent c.compare.result) c.in-Lt.is (c.compare.ensures c.args.code.now))

pub wrap-requires : goal.wrap-requires
wrap-requires c = fits_here c.args.code.now c.count-in-Wrap32.new.self c.args.instr.now (counted_can c.args.code.now c.args.state.now c.count-in-Wrap32.new.self c.args.instr.now c.count-in-Wrap32.ensures c.requires) 1 1 (follow_here c.args.code.now c.count-in-Wrap32.new.self c.args.instr.now (counted_can c.args.code.now c.args.state.now c.count-in-Wrap32.new.self c.args.instr.now c.count-in-Wrap32.ensures c.requires) I.Wrap32 c.in-Wrap32.is)

pub returns-in-Wrap32-clause-quick : goal.returns-in-Wrap32-clause-quick
returns-in-Wrap32-clause-quick c = counted_turn c.args.code.now c.args.state.now c.count-in-Wrap32.new.self c.wrap.new.state c.args.instr.now (Silent c.wrap.result) c.count-in-Wrap32.ensures (turned c.args.code.now c.args.instr.now I.Wrap32 c.count-in-Wrap32.new.self c.wrap.new.state (Silent c.wrap.result) c.in-Wrap32.is (c.wrap.ensures c.args.code.now))

pub returns-in-Jump-clause-quick : goal.returns-in-Jump-clause-quick
returns-in-Jump-clause-quick c = counted_turn c.args.code.now c.args.state.now c.count-in-Jump.new.self c.jump.new.state c.args.instr.now (Silent c.jump.result) c.count-in-Jump.ensures (turned c.args.code.now c.args.instr.now (I.Jump c.in-Jump.place) c.count-in-Jump.new.self c.jump.new.state (Silent c.jump.result) c.in-Jump.is (c.jump.ensures c.args.code.now))

pub jump_zero-requires : goal.jump_zero-requires
jump_zero-requires c = fits_here c.args.code.now c.count-in-JumpZero.new.self c.args.instr.now (counted_can c.args.code.now c.args.state.now c.count-in-JumpZero.new.self c.args.instr.now c.count-in-JumpZero.ensures c.requires) 1 0 ((follow_here c.args.code.now c.count-in-JumpZero.new.self c.args.instr.now (counted_can c.args.code.now c.args.state.now c.count-in-JumpZero.new.self c.args.instr.now c.count-in-JumpZero.ensures c.requires) (I.JumpZero c.in-JumpZero.place) c.in-JumpZero.is).0)

pub returns-in-JumpZero-clause-quick : goal.returns-in-JumpZero-clause-quick
returns-in-JumpZero-clause-quick c = counted_turn c.args.code.now c.args.state.now c.count-in-JumpZero.new.self c.jump_zero.new.state c.args.instr.now (Silent c.jump_zero.result) c.count-in-JumpZero.ensures (turned c.args.code.now c.args.instr.now (I.JumpZero c.in-JumpZero.place) c.count-in-JumpZero.new.self c.jump_zero.new.state (Silent c.jump_zero.result) c.in-JumpZero.is (c.jump_zero.ensures c.args.code.now))

pub turn_on-requires-clause-fits : goal.turn_on-requires-clause-fits
turn_on-requires-clause-fits c = fits_here c.args.code.now c.count-in-Turn.new.self c.args.instr.now (counted_can c.args.code.now c.args.state.now c.count-in-Turn.new.self c.args.instr.now c.count-in-Turn.ensures c.requires) 0 0 (follow_here c.args.code.now c.count-in-Turn.new.self c.args.instr.now (counted_can c.args.code.now c.args.state.now c.count-in-Turn.new.self c.args.instr.now c.count-in-Turn.ensures c.requires) I.Turn c.in-Turn.is)

pub returns-else-units-eq0-clause-quick : goal.returns-else-units-eq0-clause-quick
returns-else-units-eq0-clause-quick c = counted_turn c.args.code.now c.args.state.now c.count-in-Turn.new.self c.turn_on.new.state c.args.instr.now (Silent c.turn_on.result) c.count-in-Turn.ensures (turned c.args.code.now c.args.instr.now I.Turn c.count-in-Turn.new.self c.turn_on.new.state (Silent c.turn_on.result) c.in-Turn.is (c.turn_on.ensures c.args.code.now))
