use Rattle.sched_state.specs.declared.entry.JobName.TheVariants.{Prepare}
use Rattle.sched_driver.proofs.Kits.{token-fits}
use Rattle.sched_driver.proofs.Own.{took-own}
use Rattle.sched_driver.proofs.driver.Driver.prepared.Goals as goal

pub prepared-requires-clause-took : goal.prepared-requires-clause-took
prepared-requires-clause-took c = took-own c.self.inside.sched (Prepare c.args.rid) c.history-known.ensures.sched c.self.invariant.own

pub prepared-requires-clause-kit : goal.prepared-requires-clause-kit
prepared-requires-clause-kit c = token-fits c.self.inside.sched c.args.rid (record { source = c.args.source }) c.history-known.ensures.sched
