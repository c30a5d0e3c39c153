use Rattle.std.proofs.Common.{subst, ◌∙◌}
use Rattle.std.specs.Prelude.{◌≡◌}
use Rattle.sched_core.specs.Scheds.{IsSched, SchedValue}
use Rattle.sched_state.specs.Lawful.{halted_by}
use Rattle.lab_workers.specs.Turns.{adds, halt_due}
use Rattle.lab_workers.proofs.Halted.{halted-by, stopped-adds, stopped-went}
use Rattle.lab_workers.proofs.Holdings.{has-put, put-grew, put-sees}
use Rattle.lab_workers.proofs.halting.halt.Goals as goal

pub put-requires-clause-grew : goal.put-requires-clause-grew
put-requires-clause-grew g c =
    put-grew c.number-who.result c.args.chair.now c.take-held.new.chair c.take-held.new.chair.lost c.take-held.result.value c.value-sched.result.now c.stop.new.self
    c.number-who.ensures c.take-held.ensures.held.0 c.value-sched.ensures.value
    (stopped-went c.number-who.result c.value-sched.result.now c.stop.new.self c.stop.ensures)

pub returns-clause-halts : goal.returns-clause-halts
returns-clause-halts g c =
    let W : SchedValue → Type 0 = λ v. c.stop.new.self ≡ adds c.number-who.result (halt_due (halted_by v.history)) c.value-sched.result.now in (
      c.take-held.result.value.history,
      has-put c.args.chair.now c.take-held.new.chair c.put.new.chair c.take-held.new.chair.lost c.take-held.result.value c.value-sched.result.now c.stop.new.self
          c.number-who.result (halt_due (halted_by c.take-held.result.value.history)) c.number-who.ensures c.take-held.ensures.held.0 c.value-sched.ensures.value
          (subst W c.value-sched.ensures.value (stopped-adds c.number-who.result c.value-sched.result.now c.stop.new.self c.stop.ensures))
          c.put.ensures c.args.desks.now.session (c.take-held.ensures.found.2 ∙ c.requires.desks.sched)
          (subst IsSched c.value-sched.ensures.value c.history-known.ensures.sched) c.take-held.ensures.found.0 c.take-held.ensures.found.1,
    )

pub returns-clause-halted : goal.returns-clause-halted
returns-clause-halted g c =
    let went = stopped-went c.number-who.result c.value-sched.result.now c.stop.new.self c.stop.ensures in
    halted-by c.number-who.result c.value-sched.result.now c.stop.new.self c.put.new.chair c.stop.ensures
    (put-sees c.args.chair.now c.take-held.new.chair c.put.new.chair c.take-held.new.chair.lost c.take-held.result.value c.value-sched.result.now c.stop.new.self
    c.number-who.result went.0 c.number-who.ensures c.take-held.ensures.held.0 c.value-sched.ensures.value went.1 c.put.ensures)
