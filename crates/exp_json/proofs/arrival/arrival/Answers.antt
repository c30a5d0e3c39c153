use Rattle.std.proofs.Common.{rules, arith}
use Rattle.std.proofs.lemmas.Grind.{common_steps}
use Rattle.exp_json.proofs.arrival.arrival.Goals as goal

pub returns-in_err-only_order_keys : goal.returns-in_err-only_order_keys
returns-in_err-only_order_keys c =
    let keys = c.in_err-only_order_keys.ensures c.args.around.now c.args.before.now in
    first_of (search rules, grind (arith, common_steps))
