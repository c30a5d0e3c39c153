use Rattle.std.proofs.Common.{rules}
use Rattle.kern_syntax.specs.declared.statement.StmtKind.TheFolds.{the_lemmas}
use Rattle.slack_steps.proofs.known_steps.lines.Goals as goal

pub returns : goal.returns
returns c = search (rules, the_lemmas)
