use Rattle.std.proofs.Common.{◌∙◌}
use Rattle.std.proofs.lemmas.Result.{IfOk-weaker, on_err_weaker}
use Rattle.lab_workers.proofs.Holdings.{follows-put, put-grew}
use Rattle.lab_workers.proofs.Turning.{has-looked, has-turned}
use Rattle.lab_workers.proofs.turns.next_turn.Goals as goal

pub put-requires-clause-grew : goal.put-requires-clause-grew
put-requires-clause-grew g c =
    put-grew c.number-who.result c.args.chair.now c.take-held.new.chair c.take-held.new.chair.lost c.take-held.result.value c.value.result.now
    c.find_turn-turn.new.sched c.number-who.ensures c.take-held.ensures.held.0 c.value.ensures.value c.find_turn-turn.ensures.went

pub returns-clause-turn : goal.returns-clause-turn
returns-clause-turn g c =
    IfOk-weaker c.find_turn-turn.result _ _
    (λ turn t.
    has-turned c.args.chair.now c.take-held.new.chair c.put.new.chair c.take-held.new.chair.lost c.take-held.result.value c.value.result.now
    c.find_turn-turn.new.sched c.number-who.result c.args.desks.now.session turn
    c.number-who.ensures c.take-held.ensures.held.0 c.value.ensures.value c.put.ensures
    (c.take-held.ensures.found.2 ∙ c.requires.desks.sched) c.find_turn-turn.ensures.known c.take-held.ensures.found.0 c.take-held.ensures.found.1 t)
    c.find_turn-turn.ensures.turn

pub returns-clause-follows : goal.returns-clause-follows
returns-clause-follows g c =
    follows-put c.args.chair.now c.take-held.new.chair c.put.new.chair c.take-held.new.chair.lost c.take-held.result.value c.value.result.now
    c.find_turn-turn.new.sched c.number-who.result c.find_turn-turn.ensures.went.0
    c.number-who.ensures c.take-held.ensures.held.0 c.value.ensures.value c.find_turn-turn.ensures.went.1 c.put.ensures c.take-held.ensures.found.0

pub returns-clause-err : goal.returns-clause-err
returns-clause-err g c =
    on_err_weaker c.find_turn-turn.result
    (has-looked c.args.chair.now c.take-held.new.chair c.put.new.chair c.take-held.new.chair.lost c.take-held.result.value c.value.result.now
    c.find_turn-turn.new.sched c.number-who.result c.args.desks.now.session
    c.number-who.ensures c.take-held.ensures.held.0 c.value.ensures.value c.put.ensures
    (c.take-held.ensures.found.2 ∙ c.requires.desks.sched) c.find_turn-turn.ensures.known c.take-held.ensures.found.0 c.take-held.ensures.found.1)
    c.find_turn-turn.ensures.err
