use Rattle.std.proofs.Common.{[], ◌∷◌, ◌++◌, refl, sym, ap, subst, ◌∙◌}
use Rattle.sched_core.specs.Booked.{booked_acts}
use Rattle.lab_workers.specs.Leaving.{IsLeft}
use Rattle.lab_workers.specs.Workers.{WorkerValue, halts}
use Rattle.lab_workers.proofs.Holdings.{follows-has}
use Rattle.lab_workers.proofs.Leaving.{halts-once, left-halted}
use Rattle.lab_workers.proofs.Resting.{goes-trans}
use Rattle.lab_workers.proofs.Rounds.{end-finished, end-no-memory, end-stopped, end-taken, free-follows, goes-turn, sched-at, taken-since}
use Rattle.lab_workers.proofs.worker.Worker.work.Goals as goal

pub halt-requires-clause-at : goal.halt-requires-clause-at
halt-requires-clause-at g c = sched-at c.args.desks.now _ c.work_on.new.self c.self.view_is c.in-Err.ensures.goes.at c.self.invariant.0.1

pub invariant_of-self : goal.invariant_of-self
invariant_of-self g c = (
  free-follows c.self.inside.number c.self.inside.sched c.halt.new.chair c.self.invariant.0
      (follows-has c.args.desks.now.session c.halt.ensures.halts.0 _ c.self.inside.sched c.halt.new.chair c.halt.ensures.halts.1),
  c.self.invariant.1,
)

pub returns-in-Ok-clause-at : goal.returns-in-Ok-clause-at
returns-in-Ok-clause-at g c = c.in-Ok.ensures.goes.at

pub returns-in-Ok-clause-later : goal.returns-in-Ok-clause-later
returns-in-Ok-clause-later g c = c.in-Ok.ensures.goes.later

pub returns-in-Ok-clause-asked : goal.returns-in-Ok-clause-asked
returns-in-Ok-clause-asked g c = λ other. c.in-Ok.ensures.worked.ends

pub returns-in-Ok-clause-taken : goal.returns-in-Ok-clause-taken
returns-in-Ok-clause-taken g c = end-taken c.args.desks.now.session c.args.self.now.sched c.work_on.new.self.sched c.in-Ok.end c.in-Ok.ensures.worked.ends

pub returns-in-Ok-clause-rest : goal.returns-in-Ok-clause-rest
returns-in-Ok-clause-rest g c = λ other. c.in-Ok.ensures.worked.keeps.rest

pub returns-in-Ok-clause-left : goal.returns-in-Ok-clause-left
returns-in-Ok-clause-left g c = λ is. absurd (end-no-memory c.args.desks.now.session c.args.self.now.sched c.work_on.new.self.sched c.in-Ok.end c.in-Ok.ensures.worked.ends is)

pub returns-in-Ok-clause-halted : goal.returns-in-Ok-clause-halted
returns-in-Ok-clause-halted g c = λ is. absurd (end-no-memory c.args.desks.now.session c.args.self.now.sched c.work_on.new.self.sched c.in-Ok.end c.in-Ok.ensures.worked.ends is)

pub returns-in-Ok-clause-finished : goal.returns-in-Ok-clause-finished
returns-in-Ok-clause-finished g c = end-finished c.args.desks.now.session c.args.self.now.sched c.work_on.new.self.sched c.in-Ok.end c.in-Ok.ensures.worked.ends

pub returns-in-Ok-clause-stopped : goal.returns-in-Ok-clause-stopped
returns-in-Ok-clause-stopped g c = end-stopped c.args.desks.now.session c.args.self.now.sched c.work_on.new.self.sched c.in-Ok.end c.in-Ok.ensures.worked.ends

pub returns-in-Ok-clause-memory : goal.returns-in-Ok-clause-memory
returns-in-Ok-clause-memory g c = λ is. absurd (end-no-memory c.args.desks.now.session c.args.self.now.sched c.work_on.new.self.sched c.in-Ok.end c.in-Ok.ensures.worked.ends is)

pub returns-in-Ok-clause-halts : goal.returns-in-Ok-clause-halts
returns-in-Ok-clause-halts g c = λ other. c.in-Ok.ensures.worked.keeps.halts_are

pub returns-in-Err-clause-at : goal.returns-in-Err-clause-at
returns-in-Err-clause-at g c =
    (goes-turn c.args.desks.now _ c.work_on.new.self c.self.view_is c.in-Err.ensures.goes.at c.halt.new.chair (follows-has c.args.desks.now.session c.halt.ensures.halts.0 _ c.self.inside.sched c.halt.new.chair c.halt.ensures.halts.1)).at

pub returns-in-Err-clause-later : goal.returns-in-Err-clause-later
returns-in-Err-clause-later g c =
    (goes-trans c.args.desks.now c.args.self.now c.work_on.new.self _ c.in-Err.ensures.goes
    (goes-turn c.args.desks.now _ c.work_on.new.self c.self.view_is c.in-Err.ensures.goes.at c.halt.new.chair (follows-has c.args.desks.now.session c.halt.ensures.halts.0 _ c.self.inside.sched c.halt.new.chair c.halt.ensures.halts.1))).later

pub returns-in-Err-clause-asked : goal.returns-in-Err-clause-asked
returns-in-Err-clause-asked g c = λ other. absurd (other refl)

pub returns-in-Err-clause-taken : goal.returns-in-Err-clause-taken
returns-in-Err-clause-taken g c =
    taken-since c.args.self.now.sched.takings c.work_on.new.self.sched.takings c.halt.new.chair.takings (booked_acts c.halt.ensures.halts.0)
    c.in-Err.ensures.goes.later.takings
    (c.halt.ensures.halts.1.took
    ∙ ap (λ (v : WorkerValue). v.sched.takings ++ booked_acts c.halt.ensures.halts.0 ∷ []) c.self.view_is)

pub returns-in-Err-clause-rest : goal.returns-in-Err-clause-rest
returns-in-Err-clause-rest g c = λ other. absurd (other refl)

pub returns-in-Err-clause-left : goal.returns-in-Err-clause-left
returns-in-Err-clause-left g c = λ is rest.
    left-halted c.args.desks.now _ c.halt.new.chair c.halt.ensures.halts
    (follows-has c.args.desks.now.session c.halt.ensures.halts.0 _ c.self.inside.sched c.halt.new.chair c.halt.ensures.halts.1).seen
    (subst (IsLeft c.args.desks.now) (sym c.self.view_is) (c.in-Err.ensures.left.rest rest))

pub returns-in-Err-clause-halted : goal.returns-in-Err-clause-halted
returns-in-Err-clause-halted g c = λ is.
    halts-once c.args.desks.now.session c.args.self.now.sched c.self.inside.sched c.halt.new.chair
    (ap (λ (v : WorkerValue). halts v.sched) c.self.view_is ∙ c.in-Err.ensures.left.halts_are) c.halt.ensures.halts

pub returns-in-Err-clause-finished : goal.returns-in-Err-clause-finished
returns-in-Err-clause-finished g c = λ is. absurd (cc)

pub returns-in-Err-clause-stopped : goal.returns-in-Err-clause-stopped
returns-in-Err-clause-stopped g c = λ by is. absurd (cc)

pub returns-in-Err-clause-memory : goal.returns-in-Err-clause-memory
returns-in-Err-clause-memory g c = λ is. c.halt.ensures.halted

pub returns-in-Err-clause-halts : goal.returns-in-Err-clause-halts
returns-in-Err-clause-halts g c = λ other. absurd (other refl)
