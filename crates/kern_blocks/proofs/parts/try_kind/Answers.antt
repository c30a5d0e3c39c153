use Rattle.std.proofs.Common.{rules}
use Rattle.kern_syntax.specs.declared.statement.StmtKind.TheFolds.{the_lemmas}
use Rattle.kern_blocks.proofs.BlockTrees.{handlers-tree}
use Rattle.kern_blocks.proofs.parts.try_kind.Goals as goal

pub returns : goal.returns
returns c = search (rules, the_lemmas, handlers-tree)
