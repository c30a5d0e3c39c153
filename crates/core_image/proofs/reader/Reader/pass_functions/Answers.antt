use Rattle.std.proofs.Common.{arith, ◌++◌, ◌∷◌, []}
use Rattle.std.proofs.Math.Nat.{sub-zero}
use Rattle.std.proofs.lemmas.Result.{err_from_is_err_and}
use Rattle.core_image.proofs.Loop.{all_left, functions_step, functions_fail, functions_done}
use Rattle.core_image.proofs.reader.Reader.pass_functions.Goals as goal

pub loop-init : goal.loop-init
loop-init c = record { left = rw sub-zero (all_left _); most = omega arith }

pub returns-in_err-function : goal.returns-in_err-function
returns-in_err-function c =
    let p = err_from_is_err_and c.from_residual.result c.from_residual.ensures.1 in
    rw (p.1) (functions_fail c.loop.invariant.left.0 _ _ _ _ _ _ _ _ c.loop-test.true c.in_err-function.ensures.read c.loop.invariant.left.1)

pub loop-preserved : goal.loop-preserved
loop-preserved c =
    record {
      left = (c.loop.invariant.left.0 ++ _ ∷ [], functions_step _ _ _ _ _ _ _ _ _ _ c.loop-test.true c.in_ok-function.ensures.read c.loop.invariant.left.1);
      most = omega arith;
    }

pub returns : goal.returns
returns c = (c.loop.invariant.left.0, functions_done _ _ _ _ _ _ _ _ (omega arith) c.loop.invariant.left.1)
