use Rattle.std.proofs.Common.{arith}
use Rattle.std.proofs.lemmas.Result.{err_from_is_err_and}
use Rattle.core_image.proofs.Loop.{functions_step, functions_fail, functions_done}
use Rattle.core_image.proofs.reader.Reader.functions.Goals as goal

pub returns-in_err-function : goal.returns-in_err-function
returns-in_err-function c =
    let p = err_from_is_err_and c.from_residual.result c.from_residual.ensures.1 in
    rw (p.1, p.2) (functions_fail c.loop.functions.items _ _ _ _ _ _ _ _ c.loop-test.true c.in_err-function.ensures.read c.loop.invariant.told)

pub loop-preserved : goal.loop-preserved
loop-preserved c =
    record {
      told = rw (c.in_ok-push.ensures.items) (functions_step _ _ _ _ _ _ _ _ _ _ c.loop-test.true c.in_ok-function.ensures.read c.loop.invariant.told);
      most = omega arith;
    }

pub returns : goal.returns
returns c = functions_done _ _ _ _ _ _ _ _ (omega arith) c.loop.invariant.told
