use Rattle.std.proofs.Common.{◌≡◌, ◌∷◌, List, subst, subst₂, rules}
use Rattle.std.specs.Prelude.{ℤ}
use Rattle.std.proofs.lemmas.Int.{to_z-of_z}
use Rattle.rtio_types.specs.declared.outcome.Exc.TheVariants.{ZeroDivisionError}
use Rattle.core_isa.specs.Machine.{Machine, push, raise, with_operands}
use Rattle.core_isa.specs.Steps.{act}
use Rattle.core_cpu.specs.Courses.{TurnsTo}
use Rattle.core_cpu.specs.declared.course.Course.TheVariants.{Silent}
use Rattle.core_cpu.proofs.Turning.{two_popped}
use Rattle.core_cpu.proofs.step.operators.combine.Goals as goal

pub returns-in-Some : goal.returns-in-Some
returns-in-Some c =
    λ code.
    two_popped
    (act code c.args.instr)
    (push c.in-Some.value)
    c.args.state.now
    c.pop-b.new.self
    c.pop-a.new.self
    c.gives.new.state
    c.pop-a.result
    c.pop-b.result
    (Silent c.gives.result)
    c.pop-b.ensures
    c.pop-a.ensures
    (subst₂
    (λ a b. (m : Machine) (rest : List ℤ) → act code c.args.instr (with_operands m (b ∷ a ∷ rest)) ≡ push c.in-Some.value (with_operands m rest))
    (search (rules, to_z-of_z))
    (search (rules, to_z-of_z))
    (c.in-Some.ensures code))
    (subst (λ v. TurnsTo (push v) c.pop-a.new.self (Silent c.gives.result) c.gives.new.state) (search (rules, to_z-of_z)) c.gives.ensures.turns)

pub returns-in-None : goal.returns-in-None
returns-in-None c =
    λ code.
    two_popped
    (act code c.args.instr)
    (raise ZeroDivisionError)
    c.args.state.now
    c.pop-b.new.self
    c.pop-a.new.self
    c.raises.new.state
    c.pop-a.result
    c.pop-b.result
    (Silent c.raises.result)
    c.pop-b.ensures
    c.pop-a.ensures
    (subst₂
    (λ a b. (m : Machine) (rest : List ℤ) → act code c.args.instr (with_operands m (b ∷ a ∷ rest)) ≡ raise ZeroDivisionError (with_operands m rest))
    (search (rules, to_z-of_z))
    (search (rules, to_z-of_z))
    (c.in-None.ensures code))
    c.raises.ensures
