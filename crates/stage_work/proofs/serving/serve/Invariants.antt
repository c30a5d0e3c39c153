use Rattle.std.proofs.Common.{[]}
use Rattle.stage_work.specs.Serving.{IsServed, jobs_left_at}
use Rattle.stage_work.proofs.serving.serve.Given as goal

-- nothing is in flight between two jobs
abbrev pub invariant-loop-more : goal.invariant-loop-more
invariant-loop-more g l = IsServed l.fn.session [] l.sched l.cores

-- each job that is reported leaves one less
abbrev pub decreases-loop-more : goal.decreases-loop-more
decreases-loop-more g l = jobs_left_at l.sched
