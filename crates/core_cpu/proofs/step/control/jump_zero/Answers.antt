use Rattle.std.proofs.Common.{refl, rules, subst, sym}
use Rattle.std.proofs.lemmas.Int.{to_z-of_z}
use Rattle.core_isa.specs.Steps.{act, jump_if_zero}
use Rattle.core_isa.specs.declared.instr.Instr.TheVariants as I
use Rattle.core_cpu.specs.Courses.{TurnsTo}
use Rattle.core_cpu.specs.declared.course.Course.TheVariants.{Silent}
use Rattle.core_cpu.proofs.Turning.{one_popped}
use mir.Syntax.{w64}
use mir.Val.{of_z, to_z}
use Rattle.core_cpu.proofs.step.control.jump_zero.Goals as goal

pub returns-then-pop-eq0 : goal.returns-then-pop-eq0
returns-then-pop-eq0 c =
    λ code.
    one_popped
    (act code (I.JumpZero c.args.place))
    (jump_if_zero c.args.place)
    c.args.state.now
    c.pop.new.self
    c.jump.new.state
    c.pop.result
    (to_z w64 (of_z w64 c.pop.result))
    (Silent c.jump.result)
    (λ more before. refl)
    c.pop.ensures
    (search (rules, to_z-of_z))
    (subst (λ n. TurnsTo (jump_if_zero c.args.place (to_z w64 n)) c.pop.new.self (Silent c.jump.result) c.jump.new.state) (sym c.if-pop-eq0.true) (c.jump.ensures code))
