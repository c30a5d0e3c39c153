use Rattle.std.proofs.Common.{◌≡◌, ◌∷◌, List, subst, subst₂, rules}
use Rattle.std.specs.Prelude.{ℤ}
use Rattle.std.proofs.lemmas.Int.{to_z-of_z}
use Rattle.core_isa.specs.Machine.{Machine, push, with_operands}
use Rattle.core_isa.specs.Steps.{act}
use Rattle.core_cpu.specs.Courses.{TurnsTo}
use Rattle.core_cpu.specs.declared.course.Course.TheVariants.{Silent}
use Rattle.core_cpu.proofs.Turning.{two_popped}
use Rattle.core_cpu.proofs.step.operators.combine_plain.Goals as goal

pub returns : goal.returns
returns c =
    λ code.
    two_popped
    (act code c.args.instr.now)
    (push c.plain.result)
    c.args.state.now
    c.pop-b.new.self
    c.pop-a.new.self
    c.gives.new.state
    c.pop-a.result
    c.pop-b.result
    (Silent c.gives.result)
    c.pop-b.ensures
    c.pop-a.ensures
    (subst₂
    (λ a b. (m : Machine) (rest : List ℤ) → act code c.args.instr.now (with_operands m (b ∷ a ∷ rest)) ≡ push c.plain.result (with_operands m rest))
    (search (rules, to_z-of_z))
    (search (rules, to_z-of_z))
    (c.plain.ensures code))
    (subst (λ v. TurnsTo (push v) c.pop-a.new.self (Silent c.gives.result) c.gives.new.state) (search (rules, to_z-of_z)) c.gives.ensures.turns)
