use Rattle.sched_state.specs.declared.entry.JobName.TheVariants.{Prepare}
use Rattle.sched_driver.proofs.Own.{took-own}
use Rattle.sched_driver.proofs.driver.Driver.failed.Goals as goal

pub failed-requires : goal.failed-requires
failed-requires c = took-own c.self.inside.sched (Prepare c.args.rid) c.history-known.ensures.sched c.self.invariant.own
