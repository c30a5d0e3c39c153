use Rattle.std.proofs.Common.{refl}
use Rattle.top_calls.specs.Tellings.{failed, whole}
use Rattle.top_calls.proofs.telling.told.Goals as goal

pub returns-in-Ok : goal.returns-in-Ok
returns-in-Ok g c = whole refl c.in-Ok.ensures.ok c.in-Ok.ensures.cause.steady

pub returns-in-Err : goal.returns-in-Err
returns-in-Err g c = failed refl c.in-Err.ensures.err c.in-Err.ensures.cause.failed
