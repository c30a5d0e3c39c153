use Rattle.stage_work.proofs.Beginning.{begins-served}
use Rattle.stage_work.proofs.serving.serve.Goals as goal

pub loop-more-init : goal.loop-more-init
loop-more-init g c = begins-served c.args.session.now c.args.sched.now c.args.cores.now c.requires.sched c.requires.cores

pub returns-then-not-more-clause-over : goal.returns-then-not-more-clause-over
returns-then-not-more-clause-over g c = c.in_ok-more.ensures.over c.if-not-more.true

pub loop-more-smaller : goal.loop-more-smaller
loop-more-smaller g c = c.in_ok-more.ensures.fewer c.if-not-more.false
