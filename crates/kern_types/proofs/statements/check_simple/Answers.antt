use Rattle.std.proofs.Common.{rules, ◌≡◌, ap, sym}
use Rattle.kern_syntax.specs.declared.statement.StmtKind.TheFolds.{the_lemmas}
use Rattle.kern_syntax.specs.Tree.{assign_repeated}
use Rattle.kern_syntax.specs.TreeOf.{expression_of, statement_of}
use Rattle.kern_expression_types.specs.KnownOf.{functions_of}
use Rattle.kern_types.specs.Statements.{simple_verdict, repeated_verdict}
use Rattle.kern_types.proofs.Branches.{leaves-same}
use Rattle.kern_types.proofs.statements.check_simple.Goals as goal

pub returns-in-ArrayRepeat : goal.returns-in-ArrayRepeat
returns-in-ArrayRepeat c =
    let arm = c.in-ArrayRepeat in
    let functions = functions_of c.args.known.now in
    let place = c.args.place in
    let names = c.args.names.now in
    let tree : statement_of c.args.statement.now ≡ assign_repeated arm.x (expression_of arm.e) arm.count = search (rules, the_lemmas) in
    leaves-same c.check_repeated.result c.check_repeated.new.names _ _ (ap (simple_verdict functions place names) (sym tree)) (leaves-same c.check_repeated.result c.check_repeated.new.names _ _ (ap (λ x. repeated_verdict functions place names x (expression_of arm.e) arm.count) c.bytes-in-ArrayRepeat.ensures) c.check_repeated.ensures)
