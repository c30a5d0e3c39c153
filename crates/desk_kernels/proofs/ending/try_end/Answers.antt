use Rattle.std.proofs.Common.{ap}
use Rattle.std.proofs.lemmas.Result.{on_err_weaker}
use Rattle.std.specs.Int.{w64}
use Rattle.std.proofs.lemmas.Int.{to_z-of_z}
use Rattle.rtio_core.specs.Core.{CoreState}
use Rattle.desk_kernels.specs.Holdings.{Holds}
use Rattle.desk_kernels.proofs.Held.{ends-grew, held, put-grew}
use Rattle.desk_kernels.proofs.Seen.{open-found, seen-found}
use Rattle.desk_kernels.proofs.Turned.{end-at, seen-none}
use Rattle.desk_kernels.proofs.ending.try_end.Goals as goal

pub end_or_wait-done-requires : goal.end_or_wait-done-requires
end_or_wait-done-requires g c =
    record { «open» = open-found c.args.chair.now c.take-held.result.value c.value-core.result.now c.number-who.result c.value-core.ensures.value c.number-who.ensures c.history-known.ensures.core c.requires.ready.knows c.requires.open c.take-held.ensures.found.0 c.take-held.ensures.found.1 }

pub put-requires-clause-grew : goal.put-requires-clause-grew
put-requires-clause-grew g c =
    put-grew c.args.chair.now c.take-held.new.chair c.take-held.new.chair.lost c.take-held.result.value c.value-core.result.now c.end_or_wait-done.new.core c.number-who.result
    c.value-core.ensures.value c.number-who.ensures c.take-held.ensures.held.0
    (ends-grew c.number-who.result c.args.outcome _ c.value-core.result.now c.end_or_wait-done.new.core c.end_or_wait-done.result c.end_or_wait-done.ensures.ends c.end_or_wait-done.ensures.err)

pub returns-clause-goes : goal.returns-clause-goes
returns-clause-goes g c =
    let holds : Holds c.args.desk.now c.args.chair.now c.value-core.result.now c.end_or_wait-done.new.core c.put.new.chair =
    held c.args.desk.now c.args.chair.now c.take-held.new.chair c.put.new.chair c.take-held.new.chair.lost c.take-held.result.value c.value-core.result.now c.end_or_wait-done.new.core
    c.value-core.ensures.value c.requires.ready.at.0 c.take-held.ensures.held.0 c.take-held.ensures.found c.put.ensures c.history-known.ensures.core c.end_or_wait-done.ensures.known in
    holds.goes

pub returns-clause-ended : goal.returns-clause-ended
returns-clause-ended g c =
    let holds : Holds c.args.desk.now c.args.chair.now c.value-core.result.now c.end_or_wait-done.new.core c.put.new.chair =
    held c.args.desk.now c.args.chair.now c.take-held.new.chair c.put.new.chair c.take-held.new.chair.lost c.take-held.result.value c.value-core.result.now c.end_or_wait-done.new.core
    c.value-core.ensures.value c.requires.ready.at.0 c.take-held.ensures.held.0 c.take-held.ensures.found c.put.ensures c.history-known.ensures.core c.end_or_wait-done.ensures.known in
    end-at c.args.desk.now c.args.chair.now c.put.new.chair c.value-core.result.now c.end_or_wait-done.new.core holds
    (seen-found c.args.chair.now c.take-held.result.value c.value-core.result.now c.value-core.ensures.value c.history-known.ensures.core c.requires.ready.knows c.requires.open c.take-held.ensures.found.0 c.take-held.ensures.found.1)
    c.number-who.result c.args.outcome c.args.cursor _ c.end_or_wait-done.result c.number-who.ensures (to_z-of_z w64 c.args.cursor c.ranges.cursor) c.end_or_wait-done.ensures.ends

pub returns-clause-err : goal.returns-clause-err
returns-clause-err g c =
    let holds : Holds c.args.desk.now c.args.chair.now c.value-core.result.now c.end_or_wait-done.new.core c.put.new.chair =
    held c.args.desk.now c.args.chair.now c.take-held.new.chair c.put.new.chair c.take-held.new.chair.lost c.take-held.result.value c.value-core.result.now c.end_or_wait-done.new.core
    c.value-core.ensures.value c.requires.ready.at.0 c.take-held.ensures.held.0 c.take-held.ensures.found c.put.ensures c.history-known.ensures.core c.end_or_wait-done.ensures.known in
    on_err_weaker c.end_or_wait-done.result
    (λ same. seen-none c.args.desk.now c.args.chair.now c.put.new.chair c.value-core.result.now c.end_or_wait-done.new.core holds
    (seen-found c.args.chair.now c.take-held.result.value c.value-core.result.now c.value-core.ensures.value c.history-known.ensures.core c.requires.ready.knows c.requires.open c.take-held.ensures.found.0 c.take-held.ensures.found.1)
    (ap (λ (v : CoreState). v.history) same))
    c.end_or_wait-done.ensures.err
