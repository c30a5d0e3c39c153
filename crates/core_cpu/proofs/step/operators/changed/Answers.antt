use Rattle.std.proofs.Common.{rules, ◌∷◌, ◌∙◌, ap, sym, FitsSigned}
use Rattle.std.specs.Int.{w64, int_wrapping_neg}
use Rattle.std.proofs.lemmas.Int.{to_z-of_z, wrapping_neg_is}
use Rattle.core_isa.specs.Machine.{push, with_operands}
use Rattle.core_isa.specs.Steps.{act}
use Rattle.core_cpu.proofs.step.operators.changed.Goals as goal

pub returns-in-Neg : goal.returns-in-Neg
returns-in-Neg c =
    let fits : FitsSigned w64 c.wrapping_neg.result = search rules in
    λ code m rest.
    ap (λ i. act code i (with_operands m (c.args.a ∷ rest))) c.in-Neg.is
    ∙ ap
    (λ v. push v (with_operands m rest))
    (sym
    (to_z-of_z w64 c.wrapping_neg.result fits
    ∙ c.wrapping_neg.ensures
    ∙ ap (int_wrapping_neg w64) (to_z-of_z w64 c.args.a c.ranges.a)
    ∙ wrapping_neg_is w64 c.args.a c.ranges.a))
