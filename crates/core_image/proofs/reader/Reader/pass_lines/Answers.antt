use Rattle.std.proofs.Common.{arith, ◌++◌, ◌∷◌, []}
use Rattle.std.proofs.Math.Nat.{sub-zero}
use Rattle.std.proofs.lemmas.Result.{err_from_is_err_and}
use Rattle.core_image.specs.Reading.{line_at}
use Rattle.core_image.proofs.Loop.{all_left, times_step, times_fails, times_done}
use Rattle.core_image.proofs.reader.Reader.pass_lines.Goals as goal

pub loop-init : goal.loop-init
loop-init c = rw sub-zero (all_left _)

pub returns-in_err-line : goal.returns-in_err-line
returns-in_err-line c =
    let p = err_from_is_err_and c.from_residual.result c.from_residual.ensures.1 in
    rw (p.1) (times_fails line_at c.loop.invariant.0 _ _ _ _ _ c.loop-test.true c.in_err-line.ensures c.loop.invariant.1)

pub loop-preserved : goal.loop-preserved
loop-preserved c =
    (c.loop.invariant.0 ++ _ ∷ [], times_step line_at _ _ _ _ _ _ _ c.loop-test.true c.in_ok-line.ensures c.loop.invariant.1)

pub returns : goal.returns
returns c = (c.loop.invariant.0, times_done line_at _ _ _ _ _ (omega arith) c.loop.invariant.1)
