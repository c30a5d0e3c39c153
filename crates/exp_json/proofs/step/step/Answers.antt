use Rattle.std.proofs.Common.{rules, arith}
use Rattle.std.proofs.lemmas.Grind.{common_steps}
use Rattle.exp_json.proofs.step.step.Goals as goal

pub returns-in_err-only_step_keys : goal.returns-in_err-only_step_keys
returns-in_err-only_step_keys c =
    let keys = c.in_err-only_step_keys.ensures c.args.around.now in
    first_of (search rules, grind (arith, common_steps))
