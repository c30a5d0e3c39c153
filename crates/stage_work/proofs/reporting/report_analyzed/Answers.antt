use Rattle.sched_state.specs.declared.entry.JobName.TheVariants.{Analyze}
use Rattle.stage_work.proofs.Own.{memory-alone, took-own}
use Rattle.stage_work.proofs.reporting.report_analyzed.Goals as goal

pub analyzed-requires : goal.analyzed-requires
analyzed-requires c = took-own c.args.sched.now c.args.who (Analyze c.args.rid) c.history-known.ensures.sched c.requires

-- the report is of the chair's own job
pub want_of_memory-requires : goal.want_of_memory-requires
want_of_memory-requires c =
    memory-alone c.args.sched.now (Analyze c.args.rid) c.in-Err.refused.why (c.args.who, c.requires) c.history-known.ensures.sched c.in-Err.ensures.why
