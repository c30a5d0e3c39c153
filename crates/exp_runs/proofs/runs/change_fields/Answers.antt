use Rattle.std.proofs.Common.{◌≡◌, ◌≤◌, length, cond, arith}
use Rattle.std.specs.Prelude.{◌==◌}
use Rattle.exp_runs.specs.declared.run.Run.{Run}
use Rattle.exp_runs.specs.Table.{with_fields}
use Rattle.exp_runs.specs.Queues.{no_run}
use Rattle.exp_runs.proofs.Kept.{all-changed}
use Rattle.exp_runs.proofs.runs.change_fields.Goals as goal

pub returns : goal.returns
returns c =
    let done : length c.loop-run.runs ≤ c.loop-run.run-index = omega arith in
    let same : length c.loop-run.runs ≡ length c.args.runs.now = omega arith in
    all-changed (λ (run : Run). cond (run.rid == c.args.rid) (with_fields c.args.pos c.args.terminate c.args.doomed run) run) no_run c.args.runs.now c.loop-run.runs same
    (λ k lt. c.loop-run.invariant.done k (omega (arith, lt, done, same)))
