use Rattle.std.proofs.Common.{◌∷◌, ◌∙◌, ap, sym}
use Rattle.std.specs.Int.{w64}
use Rattle.std.proofs.lemmas.Int.{wrapping_add_is, wrapping_sub_is}
use Rattle.core_isa.specs.Machine.{push, with_operands}
use Rattle.core_isa.specs.Steps.{act}
use Rattle.core_cpu.proofs.step.operators.plain.Goals as goal

pub returns-in-Add : goal.returns-in-Add
returns-in-Add c =
    λ code m rest.
    ap (λ i. act code i (with_operands m (c.args.b ∷ c.args.a ∷ rest))) c.in-Add.is
    ∙ ap (λ v. push v (with_operands m rest)) (sym (wrapping_add_is w64 c.args.a c.args.b c.ranges.a c.ranges.b))

pub returns-in-Sub : goal.returns-in-Sub
returns-in-Sub c =
    λ code m rest.
    ap (λ i. act code i (with_operands m (c.args.b ∷ c.args.a ∷ rest))) c.in-Sub.is
    ∙ ap (λ v. push v (with_operands m rest)) (sym (wrapping_sub_is w64 c.args.a c.args.b c.ranges.a c.ranges.b))
