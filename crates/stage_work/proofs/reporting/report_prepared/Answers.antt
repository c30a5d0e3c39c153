use Rattle.sched_state.specs.declared.entry.JobName.TheVariants.{Prepare}
use Rattle.stage_work.proofs.Own.{kit-fits, memory-with-kit, took-own}
use Rattle.stage_work.proofs.reporting.report_prepared.Goals as goal

pub prepared-requires-clause-took : goal.prepared-requires-clause-took
prepared-requires-clause-took c = took-own c.args.sched.now c.args.who (Prepare c.args.rid) c.history-known.ensures.sched c.requires.flies

pub prepared-requires-clause-kit : goal.prepared-requires-clause-kit
prepared-requires-clause-kit c = kit-fits c.args.sched.now c.args.rid c.args.kit c.requires.kit

-- the report is of the chair's own job, with the run's kit
pub want_of_memory-requires : goal.want_of_memory-requires
want_of_memory-requires c =
    memory-with-kit c.args.sched.now (Prepare c.args.rid) c.args.kit c.in-Err.refused.why (c.args.who, c.requires.flies) c.requires.kit c.in-Err.ensures.why
