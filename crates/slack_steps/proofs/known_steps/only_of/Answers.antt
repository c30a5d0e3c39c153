use Rattle.std.proofs.Common.{◌≡◌, length, arith}
use Rattle.slack_steps.proofs.Taken.{one_line}
use Rattle.slack_steps.proofs.known_steps.only_of.Goals as goal

pub returns-in-len1 : goal.returns-in-len1
returns-in-len1 c =
    let one : length c.args.lines.now ≡ 1 = omega (arith, c.in-len1.len_at_least, c.in-len1.len_below) in
    one_line c.args.lines.now c.only-item.result one c.only-item.is
