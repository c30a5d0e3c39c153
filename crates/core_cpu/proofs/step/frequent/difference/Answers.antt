use Rattle.std.proofs.Common.{ap, sym}
use Rattle.std.specs.Int.{w64}
use Rattle.std.proofs.lemmas.Int.{wrapping_sub_is}
use Rattle.core_isa.specs.Machine.{push, with_operands}
use Rattle.core_cpu.proofs.step.frequent.difference.Goals as goal

pub returns : goal.returns
returns c =
    λ code m rest.
    ap (λ v. push v (with_operands m rest)) (sym (wrapping_sub_is w64 c.args.a c.args.b c.ranges.a c.ranges.b))
