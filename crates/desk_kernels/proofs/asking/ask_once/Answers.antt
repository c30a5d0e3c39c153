use Rattle.std.proofs.lemmas.Result.{on_err_weaker}
use Rattle.std.specs.Int.{w64}
use Rattle.std.proofs.lemmas.Int.{to_z-of_z}
use Rattle.desk_kernels.specs.Holdings.{Holds}
use Rattle.desk_kernels.proofs.Held.{held, put-grew, turn-grew}
use Rattle.desk_kernels.proofs.Seen.{open-found, seen-found}
use Rattle.desk_kernels.proofs.Turned.{seen-none, turn-at}
use Rattle.desk_kernels.proofs.asking.ask_once.Goals as goal

pub ask_or_end-turn-requires-clause-open : goal.ask_or_end-turn-requires-clause-open
ask_or_end-turn-requires-clause-open g c =
    open-found c.args.chair.now c.take-held.result.value c.value-core.result.now c.number-who.result c.value-core.ensures.value c.number-who.ensures c.history-known.ensures.core c.requires.ready.knows c.requires.open
    c.take-held.ensures.found.0 c.take-held.ensures.found.1

pub put-requires-clause-grew : goal.put-requires-clause-grew
put-requires-clause-grew g c =
    put-grew c.args.chair.now c.take-held.new.chair c.take-held.new.chair.lost c.take-held.result.value c.value-core.result.now c.ask_or_end-turn.new.core c.number-who.result
    c.value-core.ensures.value c.number-who.ensures c.take-held.ensures.held.0
    (turn-grew c.number-who.result c.args.request _ c.value-core.result.now c.ask_or_end-turn.new.core c.ask_or_end-turn.result c.ask_or_end-turn.ensures.turn c.ask_or_end-turn.ensures.err)

pub returns-clause-goes : goal.returns-clause-goes
returns-clause-goes g c =
    let holds : Holds c.args.desk.now c.args.chair.now c.value-core.result.now c.ask_or_end-turn.new.core c.put.new.chair =
    held c.args.desk.now c.args.chair.now c.take-held.new.chair c.put.new.chair c.take-held.new.chair.lost c.take-held.result.value c.value-core.result.now c.ask_or_end-turn.new.core
    c.value-core.ensures.value c.requires.ready.at.0 c.take-held.ensures.held.0 c.take-held.ensures.found c.put.ensures c.history-known.ensures.core c.ask_or_end-turn.ensures.known in
    holds.goes

pub returns-clause-turn : goal.returns-clause-turn
returns-clause-turn g c =
    let holds : Holds c.args.desk.now c.args.chair.now c.value-core.result.now c.ask_or_end-turn.new.core c.put.new.chair =
    held c.args.desk.now c.args.chair.now c.take-held.new.chair c.put.new.chair c.take-held.new.chair.lost c.take-held.result.value c.value-core.result.now c.ask_or_end-turn.new.core
    c.value-core.ensures.value c.requires.ready.at.0 c.take-held.ensures.held.0 c.take-held.ensures.found c.put.ensures c.history-known.ensures.core c.ask_or_end-turn.ensures.known in
    turn-at c.args.desk.now c.args.chair.now c.put.new.chair c.value-core.result.now c.ask_or_end-turn.new.core holds
    (seen-found c.args.chair.now c.take-held.result.value c.value-core.result.now c.value-core.ensures.value c.history-known.ensures.core c.requires.ready.knows c.requires.open c.take-held.ensures.found.0 c.take-held.ensures.found.1)
    c.number-who.result c.args.request c.args.cursor _ c.ask_or_end-turn.result c.number-who.ensures (to_z-of_z w64 c.args.cursor c.ranges.cursor) c.ask_or_end-turn.ensures.turn

pub returns-clause-err : goal.returns-clause-err
returns-clause-err g c =
    let holds : Holds c.args.desk.now c.args.chair.now c.value-core.result.now c.ask_or_end-turn.new.core c.put.new.chair =
    held c.args.desk.now c.args.chair.now c.take-held.new.chair c.put.new.chair c.take-held.new.chair.lost c.take-held.result.value c.value-core.result.now c.ask_or_end-turn.new.core
    c.value-core.ensures.value c.requires.ready.at.0 c.take-held.ensures.held.0 c.take-held.ensures.found c.put.ensures c.history-known.ensures.core c.ask_or_end-turn.ensures.known in
    on_err_weaker c.ask_or_end-turn.result
    (seen-none c.args.desk.now c.args.chair.now c.put.new.chair c.value-core.result.now c.ask_or_end-turn.new.core holds
    (seen-found c.args.chair.now c.take-held.result.value c.value-core.result.now c.value-core.ensures.value c.history-known.ensures.core c.requires.ready.knows c.requires.open c.take-held.ensures.found.0 c.take-held.ensures.found.1))
    c.ask_or_end-turn.ensures.err
