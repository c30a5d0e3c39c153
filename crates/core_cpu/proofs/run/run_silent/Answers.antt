use Rattle.std.proofs.Common.{◌≡◌, ◌+◌, ◌-◌, ◌≤◌, suc, length, refl, sym, ◌∙◌, subst, rules, arith}
use Rattle.std.proofs.lemmas.Option.{slice_get_within}
use Rattle.core_isa.proofs.Decided.{found_one}
use Rattle.core_isa.specs.Marks.{values_of}
use Rattle.core_isa.specs.declared.instr.Instr.TheVariants as I
use Rattle.core_cpu.specs.Courses.{Fits}
use Rattle.core_cpu.specs.declared.course.Course.TheVariants.{Silent}
use Rattle.core_cpu.proofs.Here.{right_here, mark_here, fits_here, slots_here, exist_here, follow_here, silent_here, place_here, handlers_here, callers_here, changes_follow, operator_follow, shift_exists, turned, called_turned, all_at}
use Rattle.core_cpu.proofs.run.run_silent.Goals as goal

pub gives-requires-clause-room : goal.gives-requires-clause-room
gives-requires-clause-room c = let fits : Fits 0 1 c.args.state.now = fits_here c.args.code.now c.args.state.now c.args.instr c.requires.can 0 1 (follow_here c.args.code.now c.args.state.now c.args.instr c.requires.can (I.Const c.in-Const.value) c.in-Const.is) in let room : length c.args.state.now.machine.top.operands - 0 + 1 ≤ 255 = fits.room in omega arith

pub gives-requires-clause-place : goal.gives-requires-clause-place
gives-requires-clause-place c = (fits_here c.args.code.now c.args.state.now c.args.instr c.requires.can 0 1 (follow_here c.args.code.now c.args.state.now c.args.instr c.requires.can (I.Const c.in-Const.value) c.in-Const.is)).place

pub load-requires-clause-slot : goal.load-requires-clause-slot
load-requires-clause-slot c = slots_here c.args.code.now c.args.state.now c.args.instr c.requires.can (suc c.in-Load.slot) (exist_here c.args.code.now c.args.state.now c.args.instr c.requires.can (I.Load c.in-Load.slot) c.in-Load.is)

pub load-requires-clause-fits : goal.load-requires-clause-fits
load-requires-clause-fits c = fits_here c.args.code.now c.args.state.now c.args.instr c.requires.can 0 1 (follow_here c.args.code.now c.args.state.now c.args.instr c.requires.can (I.Load c.in-Load.slot) c.in-Load.is)

pub returns-in-Load : goal.returns-in-Load
returns-in-Load c = turned c.args.code.now c.args.instr (I.Load c.in-Load.slot) c.args.state.now c.load.new.state (Silent c.load.result) c.in-Load.is (c.load.ensures c.args.code.now)

pub store-requires-clause-slot : goal.store-requires-clause-slot
store-requires-clause-slot c = slots_here c.args.code.now c.args.state.now c.args.instr c.requires.can (suc c.in-Store.slot) (exist_here c.args.code.now c.args.state.now c.args.instr c.requires.can (I.Store c.in-Store.slot) c.in-Store.is)

pub store-requires-clause-fits : goal.store-requires-clause-fits
store-requires-clause-fits c = fits_here c.args.code.now c.args.state.now c.args.instr c.requires.can 1 0 (follow_here c.args.code.now c.args.state.now c.args.instr c.requires.can (I.Store c.in-Store.slot) c.in-Store.is)

pub returns-in-Store : goal.returns-in-Store
returns-in-Store c = turned c.args.code.now c.args.instr (I.Store c.in-Store.slot) c.args.state.now c.store.new.state (Silent c.store.result) c.in-Store.is (c.store.ensures c.args.code.now)

pub load_element-requires-clause-array : goal.load_element-requires-clause-array
load_element-requires-clause-array c = slots_here c.args.code.now c.args.state.now c.args.instr c.requires.can (c.in-LoadAt.first + c.in-LoadAt.count) ((exist_here c.args.code.now c.args.state.now c.args.instr c.requires.can (I.LoadAt c.in-LoadAt.first c.in-LoadAt.count) c.in-LoadAt.is).1)

pub load_element-requires-clause-fits : goal.load_element-requires-clause-fits
load_element-requires-clause-fits c = fits_here c.args.code.now c.args.state.now c.args.instr c.requires.can 1 1 (follow_here c.args.code.now c.args.state.now c.args.instr c.requires.can (I.LoadAt c.in-LoadAt.first c.in-LoadAt.count) c.in-LoadAt.is)

pub returns-in-LoadAt : goal.returns-in-LoadAt
returns-in-LoadAt c = turned c.args.code.now c.args.instr (I.LoadAt c.in-LoadAt.first c.in-LoadAt.count) c.args.state.now c.load_element.new.state (Silent c.load_element.result) c.in-LoadAt.is (c.load_element.ensures c.args.code.now)

pub store_element-requires-clause-array : goal.store_element-requires-clause-array
store_element-requires-clause-array c = slots_here c.args.code.now c.args.state.now c.args.instr c.requires.can (c.in-StoreAt.first + c.in-StoreAt.count) ((exist_here c.args.code.now c.args.state.now c.args.instr c.requires.can (I.StoreAt c.in-StoreAt.first c.in-StoreAt.count) c.in-StoreAt.is).1)

pub store_element-requires-clause-fits : goal.store_element-requires-clause-fits
store_element-requires-clause-fits c = fits_here c.args.code.now c.args.state.now c.args.instr c.requires.can 2 0 (follow_here c.args.code.now c.args.state.now c.args.instr c.requires.can (I.StoreAt c.in-StoreAt.first c.in-StoreAt.count) c.in-StoreAt.is)

pub returns-in-StoreAt : goal.returns-in-StoreAt
returns-in-StoreAt c = turned c.args.code.now c.args.instr (I.StoreAt c.in-StoreAt.first c.in-StoreAt.count) c.args.state.now c.store_element.new.state (Silent c.store_element.result) c.in-StoreAt.is (c.store_element.ensures c.args.code.now)

pub fill-requires-clause-array : goal.fill-requires-clause-array
fill-requires-clause-array c = slots_here c.args.code.now c.args.state.now c.args.instr c.requires.can (c.in-Fill.first + c.in-Fill.count) ((exist_here c.args.code.now c.args.state.now c.args.instr c.requires.can (I.Fill c.in-Fill.first c.in-Fill.count) c.in-Fill.is).1)

pub fill-requires-clause-fits : goal.fill-requires-clause-fits
fill-requires-clause-fits c = fits_here c.args.code.now c.args.state.now c.args.instr c.requires.can 1 0 (follow_here c.args.code.now c.args.state.now c.args.instr c.requires.can (I.Fill c.in-Fill.first c.in-Fill.count) c.in-Fill.is)

pub returns-in-Fill : goal.returns-in-Fill
returns-in-Fill c = turned c.args.code.now c.args.instr (I.Fill c.in-Fill.first c.in-Fill.count) c.args.state.now c.fill.new.state (Silent c.fill.result) c.in-Fill.is (c.fill.ensures c.args.code.now)

pub change-requires-clause-fits : goal.change-requires-clause-fits
change-requires-clause-fits c = fits_here c.args.code.now c.args.state.now c.args.instr c.requires.can 1 1 (changes_follow c.args.code.now c.args.state.now.machine.top.function c.args.state.now.machine.top.place (mark_here c.args.code.now c.args.state.now c.args.instr c.requires.can) c.args.instr (search rules) (right_here c.args.code.now c.args.state.now c.args.instr c.requires.can).follow)

pub returns-in-Neg : goal.returns-in-Neg
returns-in-Neg c = c.change.ensures c.args.code.now

pub pop-requires : goal.pop-requires
pop-requires c = fits_here c.args.code.now c.args.state.now c.args.instr c.requires.can 1 0 (follow_here c.args.code.now c.args.state.now c.args.instr c.requires.can I.Pop c.in-Pop.is)

pub returns-in-Pop : goal.returns-in-Pop
returns-in-Pop c = turned c.args.code.now c.args.instr I.Pop c.args.state.now c.pop.new.state (Silent c.pop.result) c.in-Pop.is (c.pop.ensures c.args.code.now)

pub dup-requires : goal.dup-requires
dup-requires c = fits_here c.args.code.now c.args.state.now c.args.instr c.requires.can 1 2 (follow_here c.args.code.now c.args.state.now c.args.instr c.requires.can I.Dup c.in-Dup.is)

pub returns-in-Dup : goal.returns-in-Dup
returns-in-Dup c = turned c.args.code.now c.args.instr I.Dup c.args.state.now c.dup.new.state (Silent c.dup.result) c.in-Dup.is (c.dup.ensures c.args.code.now)

pub turn-requires : goal.turn-requires
turn-requires c = fits_here c.args.code.now c.args.state.now c.args.instr c.requires.can 0 0 (follow_here c.args.code.now c.args.state.now c.args.instr c.requires.can I.Turn c.in-Turn.is)

pub returns-in-Turn : goal.returns-in-Turn
returns-in-Turn c = turned c.args.code.now c.args.instr I.Turn c.args.state.now c.turn.new.state (Silent c.turn.result) c.in-Turn.is (c.turn.ensures c.args.code.now)

pub now-requires : goal.now-requires
now-requires c = fits_here c.args.code.now c.args.state.now c.args.instr c.requires.can 0 1 (follow_here c.args.code.now c.args.state.now c.args.instr c.requires.can I.Now c.in-Now.is)

pub returns-in-Now : goal.returns-in-Now
returns-in-Now c = turned c.args.code.now c.args.instr I.Now c.args.state.now c.now.new.state (Silent c.now.result) c.in-Now.is (c.now.ensures c.args.code.now)

pub at-requires : goal.at-requires
at-requires c = fits_here c.args.code.now c.args.state.now c.args.instr c.requires.can 1 0 (follow_here c.args.code.now c.args.state.now c.args.instr c.requires.can I.At c.in-At.is)

pub returns-in-At : goal.returns-in-At
returns-in-At c = turned c.args.code.now c.args.instr I.At c.args.state.now c.at.new.state (Silent c.at.result) c.in-At.is (c.at.ensures c.args.code.now)

pub delay-requires : goal.delay-requires
delay-requires c = fits_here c.args.code.now c.args.state.now c.args.instr c.requires.can 1 0 (follow_here c.args.code.now c.args.state.now c.args.instr c.requires.can I.Delay c.in-Delay.is)

pub returns-in-Delay : goal.returns-in-Delay
returns-in-Delay c = turned c.args.code.now c.args.instr I.Delay c.args.state.now c.delay.new.state (Silent c.delay.result) c.in-Delay.is (c.delay.ensures c.args.code.now)

pub returns-in-Jump : goal.returns-in-Jump
returns-in-Jump c = turned c.args.code.now c.args.instr (I.Jump c.in-Jump.place) c.args.state.now c.jump.new.state (Silent c.jump.result) c.in-Jump.is (c.jump.ensures c.args.code.now)

pub jump_zero-requires : goal.jump_zero-requires
jump_zero-requires c = fits_here c.args.code.now c.args.state.now c.args.instr c.requires.can 1 0 ((follow_here c.args.code.now c.args.state.now c.args.instr c.requires.can (I.JumpZero c.in-JumpZero.place) c.in-JumpZero.is).0)

pub returns-in-JumpZero : goal.returns-in-JumpZero
returns-in-JumpZero c = turned c.args.code.now c.args.instr (I.JumpZero c.in-JumpZero.place) c.args.state.now c.jump_zero.new.state (Silent c.jump_zero.result) c.in-JumpZero.is (c.jump_zero.ensures c.args.code.now)

pub function_of-requires : goal.function_of-requires
function_of-requires c = slice_get_within c.args.code.now.functions c.in-Call.function (follow_here c.args.code.now c.args.state.now c.args.instr c.requires.can (I.Call c.in-Call.function) c.in-Call.is).0 (follow_here c.args.code.now c.args.state.now c.args.instr c.requires.can (I.Call c.in-Call.function) c.in-Call.is).1

pub enter-requires-clause-arguments : goal.enter-requires-clause-arguments
enter-requires-clause-arguments c =
    subst (λ f. f.params ≤ length c.args.state.now.machine.top.operands) (found_one (sym (follow_here c.args.code.now c.args.state.now c.args.instr c.requires.can (I.Call c.in-Call.function) c.in-Call.is).1 ∙ c.function_of.ensures)) (follow_here c.args.code.now c.args.state.now c.args.instr c.requires.can (I.Call c.in-Call.function) c.in-Call.is).2.0

pub enter-requires-clause-parameters : goal.enter-requires-clause-parameters
enter-requires-clause-parameters c = c.requires.can.order.room c.in-Call.function c.function_of.result c.function_of.ensures

pub enter-requires-clause-slots : goal.enter-requires-clause-slots
enter-requires-clause-slots c = all_at (λ f. f.slots ≤ c.args.state.now.width) c.args.code.now.functions c.in-Call.function c.function_of.result c.requires.can.room c.function_of.ensures

pub returns-in-Call : goal.returns-in-Call
returns-in-Call c =
    called_turned c.args.code.now c.args.instr c.in-Call.function c.function_of.result c.args.state.now c.enter.new.state (Silent c.enter.result) c.in-Call.is c.function_of.ensures c.enter.ensures

pub leave-requires-clause-value : goal.leave-requires-clause-value
leave-requires-clause-value c = let height : length c.args.state.now.machine.top.operands ≡ values_of c.args.state.now.machine.top.function = (follow_here c.args.code.now c.args.state.now c.args.instr c.requires.can I.Return c.in-Return.is).2 in omega arith

pub leave-requires-clause-callers : goal.leave-requires-clause-callers
leave-requires-clause-callers c = callers_here c.args.code.now c.args.state.now c.args.instr c.requires.can

pub returns-in-Return : goal.returns-in-Return
returns-in-Return c = turned c.args.code.now c.args.instr I.Return c.args.state.now c.leave.new.state (Silent c.leave.result) c.in-Return.is (c.leave.ensures c.args.code.now)

pub begin_try-requires-clause-bare : goal.begin_try-requires-clause-bare
begin_try-requires-clause-bare c = (follow_here c.args.code.now c.args.state.now c.args.instr c.requires.can (I.Try c.in-Try.place) c.in-Try.is).0

pub begin_try-requires-clause-room : goal.begin_try-requires-clause-room
begin_try-requires-clause-room c = handlers_here c.args.code.now c.args.state.now c.args.instr c.requires.can (c.args.state.now.machine.top.place + 1) (length c.args.state.now.machine.top.handlers) ((follow_here c.args.code.now c.args.state.now c.args.instr c.requires.can (I.Try c.in-Try.place) c.in-Try.is).1)

pub begin_try-requires-clause-place : goal.begin_try-requires-clause-place
begin_try-requires-clause-place c = place_here c.args.code.now c.args.state.now c.args.instr c.requires.can (c.args.state.now.machine.top.place + 1) _ ((follow_here c.args.code.now c.args.state.now c.args.instr c.requires.can (I.Try c.in-Try.place) c.in-Try.is).1)

pub returns-in-Try : goal.returns-in-Try
returns-in-Try c = turned c.args.code.now c.args.instr (I.Try c.in-Try.place) c.args.state.now c.begin_try.new.state (Silent c.begin_try.result) c.in-Try.is (c.begin_try.ensures c.args.code.now)

pub end_try-requires-clause-some : goal.end_try-requires-clause-some
end_try-requires-clause-some c = (follow_here c.args.code.now c.args.state.now c.args.instr c.requires.can I.EndTry c.in-EndTry.is).0

pub end_try-requires-clause-place : goal.end_try-requires-clause-place
end_try-requires-clause-place c = place_here c.args.code.now c.args.state.now c.args.instr c.requires.can (c.args.state.now.machine.top.place + 1) _ ((follow_here c.args.code.now c.args.state.now c.args.instr c.requires.can I.EndTry c.in-EndTry.is).2)

pub returns-in-EndTry : goal.returns-in-EndTry
returns-in-EndTry c = turned c.args.code.now c.args.instr I.EndTry c.args.state.now c.end_try.new.state (Silent c.end_try.result) c.in-EndTry.is (c.end_try.ensures c.args.code.now)

pub raise-requires : goal.raise-requires
raise-requires c = follow_here c.args.code.now c.args.state.now c.args.instr c.requires.can I.Raise c.in-Raise.is

pub returns-in-Raise : goal.returns-in-Raise
returns-in-Raise c = turned c.args.code.now c.args.instr I.Raise c.args.state.now c.raise.new.state (Silent c.raise.result) c.in-Raise.is (c.raise.ensures c.args.code.now)

pub record-requires-clause-closed : goal.record-requires-clause-closed
record-requires-clause-closed c = silent_here c.args.code.now c.args.state.now c.args.instr c.requires.can (I.Record c.in-Record.name) c.in-Record.is refl

pub record-requires-clause-name : goal.record-requires-clause-name
record-requires-clause-name c = exist_here c.args.code.now c.args.state.now c.args.instr c.requires.can (I.Record c.in-Record.name) c.in-Record.is

pub record-requires-clause-place : goal.record-requires-clause-place
record-requires-clause-place c = place_here c.args.code.now c.args.state.now c.args.instr c.requires.can (c.args.state.now.machine.top.place + 1) _ ((follow_here c.args.code.now c.args.state.now c.args.instr c.requires.can (I.Record c.in-Record.name) c.in-Record.is).1)

pub combine-requires-clause-width : goal.combine-requires-clause-width
combine-requires-clause-width c = shift_exists c.args.code.now c.args.state.now.machine.top.function c.args.instr (right_here c.args.code.now c.args.state.now c.args.instr c.requires.can).exist

pub combine-requires-clause-fits : goal.combine-requires-clause-fits
combine-requires-clause-fits c = fits_here c.args.code.now c.args.state.now c.args.instr c.requires.can 2 1 (operator_follow c.args.code.now c.args.state.now.machine.top.function c.args.state.now.machine.top.place (mark_here c.args.code.now c.args.state.now c.args.instr c.requires.can) c.args.instr (search rules) (right_here c.args.code.now c.args.state.now c.args.instr c.requires.can).follow)

pub returns-in_default : goal.returns-in_default
returns-in_default c = c.combine.ensures c.args.code.now
