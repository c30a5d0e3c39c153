use Rattle.std.proofs.Common.{arith, map}
use Rattle.std.proofs.lemmas.List.{map-append}
use Rattle.std.proofs.lemmas.Result.{err_from_is_err_and}
use Rattle.core_image.specs.Parts.{parts_of_line}
use Rattle.core_image.specs.Reading.{line_at}
use Rattle.core_image.proofs.Loop.{times_step, times_fails, times_done}
use Rattle.core_image.proofs.reader.Reader.lines.Goals as goal

pub returns-in_err-line : goal.returns-in_err-line
returns-in_err-line c =
    let p = err_from_is_err_and c.from_residual.result c.from_residual.ensures.1 in
    rw (p.1, p.2) (times_fails line_at (map parts_of_line c.loop.lines.items) _ _ _ _ _ c.loop-test.true c.in_err-line.ensures c.loop.invariant)

pub loop-preserved : goal.loop-preserved
loop-preserved c =
    rw (c.in_ok-push.ensures.items, map-append) (times_step line_at _ _ _ _ _ _ _ c.loop-test.true c.in_ok-line.ensures c.loop.invariant)

pub returns : goal.returns
returns c = times_done line_at _ _ _ _ _ (omega arith) c.loop.invariant
