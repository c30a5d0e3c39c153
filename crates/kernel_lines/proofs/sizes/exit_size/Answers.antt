use Rattle.std.proofs.Common.{◌<◌, length, sym, arith}
use Rattle.std.proofs.lemmas.Bool.Decides.{nat_tests}
use Rattle.kernel_lines.proofs.Forms.{exit-some}
use Rattle.kernel_lines.proofs.sizes.exit_size.Goals as goal

pub returns-else-is_empty : goal.returns-else-is_empty
returns-else-is_empty c =
    let some : 0 < length c.args.branches.now = grind (arith, nat_tests) in
    λ setting. sym (exit-some setting c.args.branches.now c.args.last.now some)
