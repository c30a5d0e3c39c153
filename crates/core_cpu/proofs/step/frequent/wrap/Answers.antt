use Rattle.std.proofs.Common.{◌≡◌, ◌∷◌, ap, ◌∙◌, sym, subst, rules}
use Rattle.std.proofs.lemmas.Int.{to_z-of_z}
use Rattle.core_cpu.specs.Courses.{TurnsTo}
use Rattle.core_isa.specs.Machine.{push, with_operands}
use Rattle.core_isa.specs.Steps.{act}
use Rattle.core_isa.specs.declared.instr.Instr.TheVariants as I
use Rattle.core_cpu.specs.Moments.{with_history}
use Rattle.core_cpu.specs.declared.course.Course.TheVariants.{Silent}
use Rattle.core_cpu.proofs.Turning.{first_then}
use mir.Syntax.{w64}
use mir.Val.{of_z, to_z}
use Rattle.core_cpu.proofs.step.frequent.wrap.Goals as goal

pub returns : goal.returns
returns c =
    let same : to_z w64 (of_z w64 c.pop-a.result) ≡ c.pop-a.result = search (rules, to_z-of_z) in
    λ code.
    first_then
    (act code I.Wrap32)
    (push c.wrapped.result)
    c.args.state.now
    c.pop-a.new.self
    c.gives.new.state
    (Silent c.gives.result)
    (λ more before.
    ap (λ held. act code I.Wrap32 (with_history held.machine more before)) c.pop-a.ensures
    ∙ subst (λ a. act code I.Wrap32 (with_operands (with_history c.pop-a.new.self.machine more before) (a ∷ c.pop-a.new.self.machine.top.operands)) ≡ push c.wrapped.result (with_history c.pop-a.new.self.machine more before)) same (c.wrapped.ensures code (with_history c.pop-a.new.self.machine more before) c.pop-a.new.self.machine.top.operands))
    (sym (ap (λ held. held.machine.top.place) c.pop-a.ensures))
    (sym (ap (λ held. held.width) c.pop-a.ensures))
    (subst (λ v. TurnsTo (push v) c.pop-a.new.self (Silent c.gives.result) c.gives.new.state) (search (rules, to_z-of_z)) c.gives.ensures.turns)
