use Rattle.std.proofs.Common.{◌+◌, ℕ, ap, string_bytes}
use Rattle.lab_report.proofs.Joined.{lines-more}
use Rattle.lab_report.proofs.cores.lines_of_cores.Goals as goal

pub loop-core-preserved : goal.loop-core-preserved
loop-core-preserved c = (
  lines-more string_bytes c.args.cores.now c.loop-core.core-index c.loop-core.pipeline c.core-item.result c.loop-core.lines.items c.push.new.self.items c.in_ok-core_lines.field-0
      c.loop-core-test.true c.core-item.is c.loop-core.invariant.1 c.loop-core.invariant.0 c.in_ok-core_lines.ensures c.in_ok-push.ensures.items,
  ap (λ (n : ℕ). n + 1) c.loop-core.invariant.1,
)
