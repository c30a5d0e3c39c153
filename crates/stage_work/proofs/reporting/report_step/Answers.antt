use Rattle.sched_state.specs.declared.entry.JobName.TheVariants.{Step}
use Rattle.stage_work.proofs.Own.{kit-fits, memory-with-kit, took-own}
use Rattle.stage_work.proofs.reporting.report_step.Goals as goal

pub step_done-requires-clause-took : goal.step_done-requires-clause-took
step_done-requires-clause-took c = took-own c.args.sched.now c.args.who (Step c.args.rid c.args.pos) c.history-known.ensures.sched c.requires.flies

pub step_done-requires-clause-kit : goal.step_done-requires-clause-kit
step_done-requires-clause-kit c = kit-fits c.args.sched.now c.args.rid c.args.kit c.requires.kit

-- the report is of the chair's own job, with the run's kit
pub want_of_memory-requires : goal.want_of_memory-requires
want_of_memory-requires c =
    memory-with-kit c.args.sched.now (Step c.args.rid c.args.pos) c.args.kit c.in-Err.refused.why (c.args.who, c.requires.flies) c.requires.kit c.in-Err.ensures.why
