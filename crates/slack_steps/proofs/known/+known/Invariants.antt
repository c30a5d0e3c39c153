use Rattle.std.proofs.Common.{◌+◌}
use Rattle.kern_syntax.specs.Nodes.{expression_nodes}
use Rattle.kern_syntax.specs.TreeOf.{expression_of}
use Rattle.slack_steps.proofs.known.+known.Given as goal

-- a literal and a name are told by `find`, which passes any other tree on
abbrev pub decreases-find : goal.decreases-find
decreases-find l = expression_nodes (expression_of l.e.now) + expression_nodes (expression_of l.e.now) + 1

abbrev pub decreases-find_parts : goal.decreases-find_parts
decreases-find_parts l = expression_nodes (expression_of l.e.now) + expression_nodes (expression_of l.e.now)
