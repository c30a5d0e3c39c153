use Rattle.sched_state.specs.declared.entry.JobName.TheVariants.{Analyze}
use Rattle.sched_driver.proofs.Own.{took-own}
use Rattle.sched_driver.proofs.driver.Driver.analyzed.Goals as goal

pub analyzed-requires : goal.analyzed-requires
analyzed-requires c = took-own c.self.inside.sched (Analyze c.args.rid) c.history-known.ensures.sched c.self.invariant.own
