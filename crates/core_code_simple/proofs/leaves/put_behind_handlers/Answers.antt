use Rattle.std.proofs.Common.{arith}
use Rattle.std.proofs.lemmas.Grind.{common_steps}
use Rattle.core_code_simple.proofs.Straight.{end_tries-more, end_tries-none}
use Rattle.core_code_simple.proofs.leaves.put_behind_handlers.Goals as goal

pub loop-preserved : goal.loop-preserved
loop-preserved c =
    let next = end_tries-more c.loop.now c.args.count c.loop.counter c.args.last (omega arith) in
    grind (arith, common_steps)

pub returns-clause-code : goal.returns-clause-code
returns-clause-code c =
    let all = end_tries-none c.loop.now c.args.count c.loop.counter c.args.last (omega arith) in
    grind (arith, common_steps)
