use Rattle.std.proofs.Common.{ap}
use Rattle.std.proofs.lemmas.Result.{on_err_weaker}
use Rattle.rtio_core.specs.Core.{CoreState}
use Rattle.desk_kernels.specs.Holdings.{Holds}
use Rattle.desk_kernels.proofs.Held.{held, opens-at, opens-grew, own-none, put-grew}
use Rattle.desk_kernels.proofs.starting.try_start.Goals as goal

pub put-requires-clause-grew : goal.put-requires-clause-grew
put-requires-clause-grew g c =
    put-grew c.args.chair.now c.take-held.new.chair c.take-held.new.chair.lost c.take-held.result.value c.value.result.now c.open-opening.new.core c.number-who.result
    c.value.ensures.value c.number-who.ensures c.take-held.ensures.held.0
    (opens-grew c.number-who.result c.args.of c.value.result.now c.open-opening.new.core c.open-opening.result c.open-opening.ensures.opens c.open-opening.ensures.err)

pub returns-clause-goes : goal.returns-clause-goes
returns-clause-goes g c =
    let holds : Holds c.args.desk.now c.args.chair.now c.value.result.now c.open-opening.new.core c.put.new.chair =
    held c.args.desk.now c.args.chair.now c.take-held.new.chair c.put.new.chair c.take-held.new.chair.lost c.take-held.result.value c.value.result.now c.open-opening.new.core
    c.value.ensures.value c.requires.at.0 c.take-held.ensures.held.0 c.take-held.ensures.found c.put.ensures c.open-opening.ensures.known.0 c.open-opening.ensures.known.1 in
    holds.goes

pub returns-clause-opens : goal.returns-clause-opens
returns-clause-opens g c =
    let holds : Holds c.args.desk.now c.args.chair.now c.value.result.now c.open-opening.new.core c.put.new.chair =
    held c.args.desk.now c.args.chair.now c.take-held.new.chair c.put.new.chair c.take-held.new.chair.lost c.take-held.result.value c.value.result.now c.open-opening.new.core
    c.value.ensures.value c.requires.at.0 c.take-held.ensures.held.0 c.take-held.ensures.found c.put.ensures c.open-opening.ensures.known.0 c.open-opening.ensures.known.1 in
    opens-at c.args.desk.now c.args.chair.now c.put.new.chair c.value.result.now c.open-opening.new.core holds c.number-who.result c.args.of c.open-opening.result c.number-who.ensures c.open-opening.ensures.opens

pub returns-clause-err : goal.returns-clause-err
returns-clause-err g c =
    let holds : Holds c.args.desk.now c.args.chair.now c.value.result.now c.open-opening.new.core c.put.new.chair =
    held c.args.desk.now c.args.chair.now c.take-held.new.chair c.put.new.chair c.take-held.new.chair.lost c.take-held.result.value c.value.result.now c.open-opening.new.core
    c.value.ensures.value c.requires.at.0 c.take-held.ensures.held.0 c.take-held.ensures.found c.put.ensures c.open-opening.ensures.known.0 c.open-opening.ensures.known.1 in
    on_err_weaker c.open-opening.result
    (λ same. own-none c.args.desk.now c.args.chair.now c.put.new.chair c.value.result.now c.open-opening.new.core holds (ap (λ (v : CoreState). v.history) same))
    c.open-opening.ensures.err
