use Rattle.std.proofs.Common.{◌<◌, length, ap, sym, ◌∙◌, not, arith}
use Rattle.std.proofs.lemmas.Bool.Decides.{nat_tests}
use Rattle.core_code_statements.proofs.Forms.{followed-some}
use Rattle.core_code_statements.proofs.branches.is_followed.Goals as goal

pub returns-then-not-is_empty : goal.returns-then-not-is_empty
returns-then-not-is_empty c =
    let some : 0 < length c.args.branches.now = grind (arith, nat_tests) in
    ap not c.if-not-is_empty.true ∙ sym (followed-some c.args.branches.now c.args.last.now some)
