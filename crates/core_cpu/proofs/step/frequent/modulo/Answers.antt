use Rattle.std.proofs.Common.{◌≡◌, ◌∷◌, List, subst, subst₂, rules}
use Rattle.std.specs.Prelude.{ℤ}
use Rattle.std.proofs.lemmas.Int.{to_z-of_z}
use Rattle.core_isa.specs.Machine.{Machine, push, with_operands}
use Rattle.core_isa.specs.Steps.{act}
use Rattle.core_isa.specs.declared.instr.Instr.TheVariants as I
use Rattle.core_cpu.specs.Courses.{TurnsTo}
use Rattle.core_cpu.specs.declared.course.Course.TheVariants.{Silent}
use Rattle.core_cpu.proofs.Turning.{two_popped}
use mir.Syntax.{w64}
use mir.Val.{of_z, to_z}
use Rattle.core_cpu.proofs.step.frequent.modulo.Goals as goal

pub returns : goal.returns
returns c =
    let first : to_z w64 (of_z w64 c.pop-a.result) ≡ c.pop-a.result = search (rules, to_z-of_z) in
    let second : to_z w64 (of_z w64 c.pop-b.result) ≡ c.pop-b.result = search (rules, to_z-of_z) in
    λ code.
    two_popped
    (act code I.Mod)
    (push c.left.result)
    c.args.state.now
    c.pop-b.new.self
    c.pop-a.new.self
    c.gives.new.state
    c.pop-a.result
    c.pop-b.result
    (Silent c.gives.result)
    c.pop-b.ensures
    c.pop-a.ensures
    (subst₂
    (λ a b. (m : Machine) (rest : List ℤ) → act code I.Mod (with_operands m (b ∷ a ∷ rest)) ≡ push c.left.result (with_operands m rest))
    first
    second
    (c.left.ensures code))
    (subst (λ v. TurnsTo (push v) c.pop-a.new.self (Silent c.gives.result) c.gives.new.state) (search (rules, to_z-of_z)) c.gives.ensures.turns)
