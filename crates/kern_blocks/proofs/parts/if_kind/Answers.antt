use Rattle.std.proofs.Common.{◌≡◌, ◌∙◌, ap, rules}
use Rattle.kern_syntax.specs.declared.statement.StmtKind as S
use Rattle.kern_syntax.specs.declared.statement.StmtKind.TheFolds.{the_lemmas}
use Rattle.kern_syntax.specs.Tree.{if_then}
use Rattle.kern_syntax.specs.TreeOf.{block_of, branches_of, expression_of}
use Rattle.kern_statements.specs.LineSteps.{statement_of}
use Rattle.kern_blocks.proofs.BlockTrees.{branches-tree}
use Rattle.kern_blocks.proofs.parts.if_kind.Goals as goal

pub returns : goal.returns
returns c =
    let folded : statement_of (S.If c.args.condition c.args.body c.args.branches c.args.last) ≡ if_then (expression_of c.args.condition) (block_of c.args.body) (branches_of c.args.branches.items c.args.last) = search (rules, the_lemmas) in
    folded ∙ ap (λ y. if_then (expression_of c.args.condition) (block_of c.args.body) y) (branches-tree c.args.branches.items c.args.last)
