use Rattle.std.proofs.Common.{ap, sym, ◌∙◌, rules}
use Rattle.std.proofs.lemmas.Int.{to_z-of_z}
use Rattle.core_isa.specs.Machine.{next, push}
use Rattle.core_isa.specs.Steps.{act, return_from, leave}
use Rattle.core_isa.specs.declared.instr.Instr.TheVariants as I
use Rattle.core_cpu.specs.Moments.{with_history}
use Rattle.core_cpu.specs.declared.course.Course.TheVariants.{Silent}
use Rattle.core_cpu.proofs.Turning.{one_popped, goes_then}
use mir.Syntax.{w64}
use mir.Val.{of_z, to_z}
use Rattle.core_cpu.proofs.step.calls.leave.Goals as goal

pub returns-then-leave-2 : goal.returns-then-leave-2
returns-then-leave-2 c =
    λ code.
    goes_then
    (act code I.Return)
    next
    c.args.state.now
    c.leave-else-function.new.self
    c.onward.new.state
    (Silent c.onward.result)
    (λ more before.
    ap (λ v. return_from v (with_history c.args.state.now.machine more before)) (sym (ap (λ f. f.value) c.function.ensures) ∙ c.if-function.false)
    ∙ ap (λ callers. leave callers next (with_history c.args.state.now.machine more before)) (c.leave-else-function.ensures.caller c.if-leave-2.true)
    ∙ ap (λ held. next (with_history held.machine more before)) (sym (c.leave-else-function.ensures.left c.if-leave-2.true)))
    (ap (λ held. held.width) (c.leave-else-function.ensures.left c.if-leave-2.true))
    (ap Silent c.onward.ensures.goes)
    c.onward.ensures.turns

pub returns-then-leave : goal.returns-then-leave
returns-then-leave c =
    λ code.
    one_popped
    (act code I.Return)
    (λ v m. leave m.callers (push v) m)
    c.args.state.now
    c.pop-value.new.self
    c.gives.new.state
    c.pop-value.result
    (to_z w64 (of_z w64 c.pop-value.result))
    (Silent c.gives.result)
    (λ more before.
    ap (λ v. return_from v (with_history c.args.state.now.machine more before)) (sym (ap (λ f. f.value) c.function.ensures) ∙ c.if-function.true))
    c.pop-value.ensures
    (search (rules, to_z-of_z))
    (goes_then
    (λ m. leave m.callers (push (to_z w64 (of_z w64 c.pop-value.result))) m)
    (push (to_z w64 (of_z w64 c.pop-value.result)))
    c.pop-value.new.self
    c.leave.new.self
    c.gives.new.state
    (Silent c.gives.result)
    (λ more before.
    ap
    (λ callers. leave callers (push (to_z w64 (of_z w64 c.pop-value.result))) (with_history c.pop-value.new.self.machine more before))
    (c.leave.ensures.caller c.if-leave.true)
    ∙ ap
    (λ held. push (to_z w64 (of_z w64 c.pop-value.result)) (with_history held.machine more before))
    (sym (c.leave.ensures.left c.if-leave.true)))
    (ap (λ held. held.width) (c.leave.ensures.left c.if-leave.true))
    (ap Silent c.gives.ensures.goes)
    c.gives.ensures.turns)
