use Rattle.std.proofs.Common.{[]}
use Rattle.lab_workers.specs.Leaving.{IsLeft}
use Rattle.lab_workers.specs.Workers.{IsAtRest}
use Rattle.stage_work.proofs.Done.{on-err}
use Rattle.lab_workers.proofs.Resting.{comes-trans, goes-same, goes-trans, keeps-same}
use Rattle.lab_workers.proofs.Rounds.{end-since, ends-as}
use Rattle.lab_workers.proofs.worker.Worker.work_on.Goals as goal

pub round-requires-clause-at : goal.round-requires-clause-at
round-requires-clause-at g c = c.loop.invariant.1.at

pub returns-in_err-end-clause-goes : goal.returns-in_err-end-clause-goes
returns-in_err-end-clause-goes g c =
    goes-trans c.args.desks.now c.args.self.now c.loop.self c.round.new.self c.loop.invariant.1 c.in_err-end.ensures.goes

pub returns-in_err-end-clause-left : goal.returns-in_err-end-clause-left
returns-in_err-end-clause-left g c =
    on-err _ _
    (comes-trans c.args.desks.now.session [] [] (IsLeft c.args.desks.now) c.args.self.now c.loop.self c.round.new.self c.loop.invariant.2 c.in_err-end.ensures.left)

pub returns-in-Some-2-clause-goes : goal.returns-in-Some-2-clause-goes
returns-in-Some-2-clause-goes g c =
    goes-trans c.args.desks.now c.args.self.now c.loop.self c.round.new.self c.loop.invariant.1 c.in_ok-end.ensures.goes

pub returns-in-Some-2-clause-worked : goal.returns-in-Some-2-clause-worked
returns-in-Some-2-clause-worked g c = record {
  keeps = comes-trans c.args.desks.now.session [] [] (IsAtRest c.args.desks.now.session) c.args.self.now c.loop.self c.round.new.self c.loop.invariant.2 c.in_ok-end.ensures.round.keeps;
  ends =
      end-since c.args.desks.now.session c.args.self.now.sched c.loop.self.sched c.round.new.self.sched c.in-Some-2.end c.loop.invariant.1.later.takings
      (ends-as c.args.desks.now.session c.loop.self.sched c.round.new.self.sched c.in_ok-end.field-0 c.in-Some-2.end c.in-Some-2.is c.in_ok-end.ensures.round.ends);
}

pub loop-init : goal.loop-init
loop-init g c = ((tt, tt), goes-same c.args.desks.now c.args.self.now c.requires.at, keeps-same c.args.desks.now.session c.args.self.now)

pub loop-preserved : goal.loop-preserved
loop-preserved g c = (
  (tt, tt),
  goes-trans c.args.desks.now c.args.self.now c.loop.self c.round.new.self c.loop.invariant.1 c.in_ok-end.ensures.goes,
  comes-trans c.args.desks.now.session [] [] (IsAtRest c.args.desks.now.session) c.args.self.now c.loop.self c.round.new.self c.loop.invariant.2 c.in_ok-end.ensures.round.keeps,
)
