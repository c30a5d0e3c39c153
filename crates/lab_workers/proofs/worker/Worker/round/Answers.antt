use Rattle.std.proofs.Common.{length, List, [], ◌∷◌, sym, ap, subst, ◌∙◌, drop}
use Rattle.std.proofs.lemmas.List.{take_at}
use Rattle.desk_rule.specs.Histories.{Each}
use Rattle.desk_kernels.specs.Chairs.{CoreChair}
use Rattle.lab_workers.specs.declared.turns.Turn.TheVariants as turn
use Rattle.lab_workers.specs.Idling.{AreAt, HaveWaited}
use Rattle.lab_workers.specs.Leaving.{IsLeft}
use Rattle.lab_workers.specs.Rounds.{GoesOn, KeepsRest}
use Rattle.stage_work.specs.Tasks.{job_of}
use Rattle.lab_workers.specs.Workers.{IsAtRest, IsFree, WorkerValue}
use Rattle.stage_work.proofs.Done.{on-err}
use Rattle.lab_workers.proofs.Leaving.{comes-left, rests-left}
use Rattle.lab_workers.proofs.Resting.{comes-from, comes-trans, goes-trans}
use Rattle.lab_workers.proofs.Rounds.{asks-here, cores-at, cores-count, free-follows, goes-idle, goes-turn, keeps-idle, keeps-turn, sched-at, turned-as}
use Rattle.lab_workers.proofs.Turning.{taken-turn, turned-owes}
use Rattle.lab_workers.proofs.Waiting.{free-waited}
use Rattle.lab_workers.proofs.worker.Worker.round.Goals as goal

pub next_turn-requires-clause-at : goal.next_turn-requires-clause-at
next_turn-requires-clause-at g c = sched-at c.args.desks.now _ c.args.self.now c.self.view_is c.requires.at c.self.invariant.0.1

pub invariant_of-self : goal.invariant_of-self
invariant_of-self g c = (free-follows c.self.inside.number c.self.inside.sched c.next_turn.new.chair c.self.invariant.0 c.in_err-turn.ensures.follows, c.self.invariant.1)

pub returns-in_err-turn-clause-goes : goal.returns-in_err-turn-clause-goes
returns-in_err-turn-clause-goes g c =
    goes-turn c.args.desks.now _ c.args.self.now c.self.view_is c.requires.at c.next_turn.new.chair c.in_err-turn.ensures.follows

pub invariant_of-self-in-Job : goal.invariant_of-self-in-Job
invariant_of-self-in-Job g c =
    (free-follows c.self.inside.number c.self.inside.sched c.next_turn.new.chair c.self.invariant.0 c.in_ok-turn.ensures.follows, c.self.invariant.1)

pub do_task-requires-clause-at : goal.do_task-requires-clause-at
do_task-requires-clause-at g c =
    (goes-turn c.args.desks.now _ c.args.self.now c.self.view_is c.requires.at c.next_turn.new.chair c.in_ok-turn.ensures.follows).at

pub do_task-requires-clause-taken : goal.do_task-requires-clause-taken
do_task-requires-clause-taken g c =
    taken-turn c.args.desks.now.session c.in-Job.task c.self.inside.sched c.next_turn.new.chair
    (turned-as c.args.desks.now.session c.in_ok-turn.turn (turn.Job c.in-Job.task) c.self.inside.sched c.next_turn.new.chair c.in-Job.is c.in_ok-turn.ensures.turn)

pub do_task-requires-clause-is : goal.do_task-requires-clause-is
do_task-requires-clause-is g c =
    (turned-as c.args.desks.now.session c.in_ok-turn.turn (turn.Job c.in-Job.task) c.self.inside.sched c.next_turn.new.chair
    c.in-Job.is c.in_ok-turn.ensures.turn).turn_is.1

pub returns-in_err-do_task-in-Job-clause-goes : goal.returns-in_err-do_task-in-Job-clause-goes
returns-in_err-do_task-in-Job-clause-goes g c =
    goes-trans c.args.desks.now c.args.self.now _ c.do_task.new.self
    (goes-turn c.args.desks.now _ c.args.self.now c.self.view_is c.requires.at c.next_turn.new.chair c.in_ok-turn.ensures.follows)
    c.in_err-do_task-in-Job.ensures.goes

pub let_all_tick-requires-clause-count : goal.let_all_tick-requires-clause-count
let_all_tick-requires-clause-count g c =
    ap length c.as_mut_slice.ensures.value
    ∙ (cores-count c.args.desks.now _ c.args.self.now c.self.view_is c.requires.at ∙ sym (ap length c.as_slice.ensures.value))

pub let_all_tick-requires-clause-at : goal.let_all_tick-requires-clause-at
let_all_tick-requires-clause-at g c =
    let A : List CoreChair → Type 0 = λ cs. AreAt c.as_slice.result.now cs in
    let D : List _ → Type 0 = λ ds. AreAt ds c.self.inside.cores.items in
    subst A (sym c.as_mut_slice.ensures.value)
    (subst D (sym c.as_slice.ensures.value) (cores-at c.args.desks.now _ c.args.self.now c.self.view_is c.requires.at c.self.invariant.1))

pub invariant_of-self-in-Idle : goal.invariant_of-self-in-Idle
invariant_of-self-in-Idle g c =
    let was = c.as_mut_slice.ensures.value in
    let whole = take_at c.let_all_tick.new.chairs (drop (length c.let_all_tick.new.chairs) c.self.inside.cores.items) c.self.inside.cores.len (c.let_all_tick.ensures.count ∙ (ap length was ∙ sym c.self.inside.cores.ok.0)) in
    let E : List CoreChair → Type 0 = λ cs. Each (IsFree c.self.inside.number) cs in
    let H : List CoreChair → Type 0 = λ cs. HaveWaited cs c.let_all_tick.new.chairs in (
      free-follows c.self.inside.number c.self.inside.sched c.next_turn.new.chair c.self.invariant.0 c.in_ok-turn.ensures.follows,
      subst E (sym whole)
          (free-waited (record { number = c.self.inside.number; sched = c.self.inside.sched; cores = c.self.inside.cores.items })
          c.let_all_tick.new.chairs (subst H was c.let_all_tick.ensures) c.self.invariant.1),
    )

pub invariant_of-self-in-Over : goal.invariant_of-self-in-Over
invariant_of-self-in-Over g c =
    (free-follows c.self.inside.number c.self.inside.sched c.next_turn.new.chair c.self.invariant.0 c.in_ok-turn.ensures.follows, c.self.invariant.1)

pub invariant_of-self-in-Stopped : goal.invariant_of-self-in-Stopped
invariant_of-self-in-Stopped g c =
    (free-follows c.self.inside.number c.self.inside.sched c.next_turn.new.chair c.self.invariant.0 c.in_ok-turn.ensures.follows, c.self.invariant.1)

pub returns-in_ok-do_task-in-Job-clause-goes : goal.returns-in_ok-do_task-in-Job-clause-goes
returns-in_ok-do_task-in-Job-clause-goes g c =
    goes-trans c.args.desks.now c.args.self.now _ c.do_task.new.self
    (goes-turn c.args.desks.now _ c.args.self.now c.self.view_is c.requires.at c.next_turn.new.chair c.in_ok-turn.ensures.follows)
    c.in_ok-do_task-in-Job.ensures.goes

pub returns-in_ok-do_task-in-Job-clause-round : goal.returns-in_ok-do_task-in-Job-clause-round
returns-in_ok-do_task-in-Job-clause-round g c =
    let turned =
    turned-as c.args.desks.now.session c.in_ok-turn.turn (turn.Job c.in-Job.task) c.self.inside.sched c.next_turn.new.chair c.in-Job.is c.in_ok-turn.ensures.turn in
    let jobs = job_of c.in-Job.task ∷ [] in
    record {
      keeps =
          comes-trans c.args.desks.now.session [] jobs (IsAtRest c.args.desks.now.session) c.args.self.now _ c.do_task.new.self
          (keeps-turn c.args.desks.now _ c.args.self.now c.self.view_is c.requires.at c.next_turn.new.chair turned.quietly [] jobs
          (turned-owes c.args.desks.now.session (turn.Job c.in-Job.task) c.self.inside.sched c.next_turn.new.chair turned))
          c.in_ok-do_task-in-Job.ensures.rests;
      ends = tt;
    }

pub returns-in_err-do_task-in-Job-clause-left : goal.returns-in_err-do_task-in-Job-clause-left
returns-in_err-do_task-in-Job-clause-left g c =
    let turned =
    turned-as c.args.desks.now.session c.in_ok-turn.turn (turn.Job c.in-Job.task) c.self.inside.sched c.next_turn.new.chair c.in-Job.is c.in_ok-turn.ensures.turn in
    let jobs = job_of c.in-Job.task ∷ [] in
    on-err _ _
    (comes-trans c.args.desks.now.session [] jobs (IsLeft c.args.desks.now) c.args.self.now _ c.do_task.new.self
    (keeps-turn c.args.desks.now _ c.args.self.now c.self.view_is c.requires.at c.next_turn.new.chair turned.quietly [] jobs
    (turned-owes c.args.desks.now.session (turn.Job c.in-Job.task) c.self.inside.sched c.next_turn.new.chair turned))
    (comes-left c.args.desks.now c.in-Job.task _ c.do_task.new.self c.in_err-do_task-in-Job.ensures.left))

pub returns-in_err-turn-clause-left : goal.returns-in_err-turn-clause-left
returns-in_err-turn-clause-left g c =
    on-err _ _
    (comes-from c.args.desks.now.session [] (IsLeft c.args.desks.now) _ c.args.self.now _ c.self.view_is
    (rests-left c.args.desks.now _ c.next_turn.new.chair c.in_err-turn.ensures.err))

pub returns-in-Idle-clause-goes : goal.returns-in-Idle-clause-goes
returns-in-Idle-clause-goes g c =
    let was = c.as_mut_slice.ensures.value in
    let whole = take_at c.let_all_tick.new.chairs (drop (length c.let_all_tick.new.chairs) c.self.inside.cores.items) c.self.inside.cores.len (c.let_all_tick.ensures.count ∙ (ap length was ∙ sym c.self.inside.cores.ok.0)) in
    let G : List CoreChair → Type 0 = λ cs.
    GoesOn c.args.desks.now c.args.self.now (record { number = c.self.inside.number; sched = c.next_turn.new.chair; cores = cs }) in
    let H : List CoreChair → Type 0 = λ cs. HaveWaited cs c.let_all_tick.new.chairs in
    subst G (sym whole)
    (goes-idle c.args.desks.now _ c.args.self.now c.self.view_is c.requires.at c.next_turn.new.chair c.let_all_tick.new.chairs
    c.in_ok-turn.ensures.follows (subst H was c.let_all_tick.ensures))

pub returns-in-Idle-clause-round : goal.returns-in-Idle-clause-round
returns-in-Idle-clause-round g c =
    let was = c.as_mut_slice.ensures.value in
    let whole = take_at c.let_all_tick.new.chairs (drop (length c.let_all_tick.new.chairs) c.self.inside.cores.items) c.self.inside.cores.len (c.let_all_tick.ensures.count ∙ (ap length was ∙ sym c.self.inside.cores.ok.0)) in
    let K : List CoreChair → Type 0 = λ cs.
    KeepsRest c.args.desks.now.session c.args.self.now (record { number = c.self.inside.number; sched = c.next_turn.new.chair; cores = cs }) in
    let H : List CoreChair → Type 0 = λ cs. HaveWaited cs c.let_all_tick.new.chairs in
    let turned =
    turned-as c.args.desks.now.session c.in_ok-turn.turn turn.Idle c.self.inside.sched c.next_turn.new.chair c.in-Idle.is c.in_ok-turn.ensures.turn in
    record {
      keeps =
          subst K (sym whole)
          (keeps-idle c.args.desks.now _ c.args.self.now c.self.view_is c.requires.at c.next_turn.new.chair c.let_all_tick.new.chairs
          turned.quietly (turned-owes c.args.desks.now.session turn.Idle c.self.inside.sched c.next_turn.new.chair turned)
          c.self.invariant.1 (subst H was c.let_all_tick.ensures));
      ends = tt;
    }

pub returns-in-Over-clause-goes : goal.returns-in-Over-clause-goes
returns-in-Over-clause-goes g c =
    goes-turn c.args.desks.now _ c.args.self.now c.self.view_is c.requires.at c.next_turn.new.chair c.in_ok-turn.ensures.follows

pub returns-in-Over-clause-round : goal.returns-in-Over-clause-round
returns-in-Over-clause-round g c =
    let turned =
    turned-as c.args.desks.now.session c.in_ok-turn.turn turn.Over c.self.inside.sched c.next_turn.new.chair c.in-Over.is c.in_ok-turn.ensures.turn in
    record {
      keeps =
          keeps-turn c.args.desks.now _ c.args.self.now c.self.view_is c.requires.at c.next_turn.new.chair turned.quietly [] []
          (turned-owes c.args.desks.now.session turn.Over c.self.inside.sched c.next_turn.new.chair turned);
      ends =
          asks-here c.args.desks.now.session turn.Over c.args.self.now.sched c.self.inside.sched c.next_turn.new.chair
          (ap (λ (v : WorkerValue). v.sched) c.self.view_is) turned;
    }

pub returns-in-Stopped-clause-goes : goal.returns-in-Stopped-clause-goes
returns-in-Stopped-clause-goes g c =
    goes-turn c.args.desks.now _ c.args.self.now c.self.view_is c.requires.at c.next_turn.new.chair c.in_ok-turn.ensures.follows

pub returns-in-Stopped-clause-round : goal.returns-in-Stopped-clause-round
returns-in-Stopped-clause-round g c =
    let turned =
    turned-as c.args.desks.now.session c.in_ok-turn.turn (turn.Stopped c.in-Stopped.by) c.self.inside.sched c.next_turn.new.chair c.in-Stopped.is c.in_ok-turn.ensures.turn in
    record {
      keeps =
          keeps-turn c.args.desks.now _ c.args.self.now c.self.view_is c.requires.at c.next_turn.new.chair turned.quietly [] []
          (turned-owes c.args.desks.now.session (turn.Stopped c.in-Stopped.by) c.self.inside.sched c.next_turn.new.chair turned);
      ends =
          asks-here c.args.desks.now.session (turn.Stopped c.in-Stopped.by) c.args.self.now.sched c.self.inside.sched c.next_turn.new.chair
          (ap (λ (v : WorkerValue). v.sched) c.self.view_is) turned;
    }
