use Rattle.std.proofs.Common.{◌≡◌, ◌∷◌, ap, ◌∙◌, sym, subst, rules}
use Rattle.std.proofs.lemmas.Int.{to_z-of_z}
use Rattle.core_cpu.specs.Courses.{TurnsTo}
use Rattle.core_isa.specs.Machine.{push, with_operands}
use Rattle.core_isa.specs.Steps.{act}
use Rattle.core_cpu.specs.Moments.{with_history}
use Rattle.core_cpu.specs.declared.course.Course.TheVariants.{Silent}
use Rattle.core_cpu.proofs.Turning.{first_then}
use Rattle.core_cpu.proofs.step.frequent.change_one.Goals as goal

pub returns : goal.returns
returns c =
    λ code.
    first_then
    (act code c.args.instr.now)
    (push c.changed.result)
    c.args.state.now
    c.pop-a.new.self
    c.gives.new.state
    (Silent c.gives.result)
    (λ more before.
    ap (λ held. act code c.args.instr.now (with_history held.machine more before)) c.pop-a.ensures
    ∙ subst (λ a. act code c.args.instr.now (with_operands (with_history c.pop-a.new.self.machine more before) (a ∷ c.pop-a.new.self.machine.top.operands)) ≡ push c.changed.result (with_history c.pop-a.new.self.machine more before)) (search (rules, to_z-of_z)) (c.changed.ensures code (with_history c.pop-a.new.self.machine more before) c.pop-a.new.self.machine.top.operands))
    (sym (ap (λ held. held.machine.top.place) c.pop-a.ensures))
    (sym (ap (λ held. held.width) c.pop-a.ensures))
    (subst (λ v. TurnsTo (push v) c.pop-a.new.self (Silent c.gives.result) c.gives.new.state) (search (rules, to_z-of_z)) c.gives.ensures.turns)
