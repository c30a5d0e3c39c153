use Rattle.std.proofs.Common.{ap}
use Rattle.rtio_core.specs.Core.{CoreState}
use Rattle.lab_workers.proofs.Waiting.{has-waited, ticked-grew}
use Rattle.lab_workers.proofs.idling.let_tick.Goals as goal

-- a tick adds nothing to the history
pub put-requires-clause-grew : goal.put-requires-clause-grew
put-requires-clause-grew g c =
    ticked-grew c.args.chair.now c.take-held.new.chair c.take-held.new.chair.lost c.take-held.result.value c.value-core.result.now c.leap.new.self
    c.take-held.ensures.held.0 c.value-core.ensures.value (ap (λ (v : CoreState). v.history) c.leap.ensures.after)

pub returns : goal.returns
returns g c =
    has-waited c.args.chair.now c.take-held.new.chair c.put.new.chair c.take-held.new.chair.lost c.take-held.result.value c.value-core.result.now c.leap.new.self
    c.take-held.ensures.held.0 c.value-core.ensures.value (ap (λ (v : CoreState). v.history) c.leap.ensures.after)
    c.put.ensures c.take-held.ensures.found.0 c.take-held.ensures.found.1 c.history-known.ensures.core.lawful
