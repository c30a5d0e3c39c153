use Rattle.std.proofs.Common.{rules, ◌≡◌, ◌+◌, Some, None, arith}
use Rattle.kern_syntax.specs.declared.statement.StmtKind.TheFolds.{the_lemmas}
use Rattle.kern_syntax.specs.Nodes.{block_nodes, otherwise_nodes, expression_nodes, shown}
use Rattle.kern_syntax.specs.TreeOf.{line_of, block_of, branches_of, expression_of}
use Rattle.kern_syntax.specs.Tree.{done}
use Rattle.kern_syntax.proofs.Branches.{otherwise_nodes_else}
use Rattle.kern_syntax.proofs.counting.+statements.Goals as goal

pub nodes_of_statement-returns-in-If-default-default-default-Some :
    goal.nodes_of_statement-returns-in-If-default-default-default-Some
nodes_of_statement-returns-in-If-default-default-default-Some t c =
    let arm = c.in-If-default-default-default-Some in
    let whole : block_nodes (line_of c.args.statement.now done) ≡ 1 + expression_nodes (expression_of arm.condition) + block_nodes (block_of arm.body) + otherwise_nodes (branches_of arm.branches.items (Some arm.last)) = search (rules, the_lemmas) in
    let others : c.nodes_of_branches-in-If-default-default-default-Some.result ≡ shown (otherwise_nodes (branches_of arm.branches.items None)) = search rules in
    let last : c.nodes_of_block-in-If-default-default-default-Some-2.result ≡ shown (block_nodes (block_of arm.last)) =
    search rules
    in
    omega (
      arith,
      whole,
      otherwise_nodes_else arm.branches.items arm.last,
      c.nodes_of_expression-in-If-default-default-default-Some.ensures,
      c.nodes_of_block-in-If-default-default-default-Some.ensures,
      others,
      last,
      c.saturating_add-in-If-default-default-default-Some.ensures,
      c.saturating_add-in-If-default-default-default-Some-2.ensures,
      c.saturating_add-in-If-default-default-default-Some-3.ensures,
      c.saturating_add-in-If-default-default-default-Some-4.ensures,
    )
