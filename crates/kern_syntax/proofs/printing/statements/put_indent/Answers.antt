use Rattle.std.proofs.Common.{arith}
use Rattle.std.proofs.lemmas.Grind.{common_steps}
use Rattle.kern_syntax.proofs.Indents.{indent-more, indent-none}
use Rattle.kern_syntax.proofs.printing.statements.put_indent.Goals as goal

pub loop-preserved : goal.loop-preserved
loop-preserved c = let next = indent-more c.args.level c.loop.counter (omega arith) in grind (arith, common_steps)

pub returns : goal.returns
returns c = let all = indent-none c.args.level c.loop.counter (omega arith) in grind (arith, common_steps)
