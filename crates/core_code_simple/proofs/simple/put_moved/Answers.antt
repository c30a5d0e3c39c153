use Rattle.std.proofs.Common.{arith}
use Rattle.std.proofs.lemmas.Grind.{common_steps}
use Rattle.core_code_simple.proofs.Straight.{moved-more, moved-none}
use Rattle.core_code_simple.proofs.simple.put_moved.Goals as goal

pub loop-step-preserved : goal.loop-step-preserved
loop-step-preserved c =
    let next = moved-more c.args.inside.mark c.args.count c.loop-step.step c.args.inside.free c.args.to (omega arith) in
    grind (arith, common_steps)

pub returns-clause-code : goal.returns-clause-code
returns-clause-code c =
    let all = moved-none c.args.inside.mark c.args.count c.loop-step.step c.args.inside.free c.args.to (omega arith) in
    grind (arith, common_steps)
