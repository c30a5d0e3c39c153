-- Which programs have no code.
use Rattle.std.specs.Prelude.{◌≡◌, ◌<◌, ◌≤◌}
use Rattle.limits.specs.Limits.{most_nodes}
use Rattle.kern_syntax.specs.Nodes.{program_nodes, shown}
use Rattle.kern_syntax.specs.Tree.{ProgramTree}
use Rattle.core_code.specs.declared.end.CodeEnd.{CodeEnd}
use Rattle.core_code.specs.declared.end.CodeEnd.TheVariants as E

-- a program has no code: it is too large, and its nodes are told; or memory ran out for one that isn't
abbrev pub IsEndOf : CodeEnd → ProgramTree → Type 0
IsEndOf (E.TooLarge nodes) program = (most_nodes < program_nodes program) × (nodes ≡ shown (program_nodes program))
IsEndOf E.Memory program = program_nodes program ≤ most_nodes
