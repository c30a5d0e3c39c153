use Rattle.std.proofs.Common.{arith}
use Rattle.std.proofs.lemmas.Result.{err_from_is_err_and}
use Rattle.core_image.specs.Reading.{name_at}
use Rattle.core_image.proofs.Loop.{times_step, times_fails, times_done}
use Rattle.core_image.proofs.reader.Reader.names.Goals as goal

pub returns-in_err-name : goal.returns-in_err-name
returns-in_err-name c =
    let p = err_from_is_err_and c.from_residual.result c.from_residual.ensures.1 in
    rw (p.1, p.2) (times_fails name_at c.loop.names.items _ _ _ _ _ c.loop-test.true c.in_err-name.ensures c.loop.invariant)

pub loop-preserved : goal.loop-preserved
loop-preserved c =
    rw (c.in_ok-push.ensures.items) (times_step name_at _ _ _ _ _ _ _ c.loop-test.true c.in_ok-name.ensures c.loop.invariant)

pub returns : goal.returns
returns c = times_done name_at _ _ _ _ _ (omega arith) c.loop.invariant
