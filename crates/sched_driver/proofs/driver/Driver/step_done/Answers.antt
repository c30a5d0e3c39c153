use Rattle.sched_state.specs.declared.entry.JobName.TheVariants.{Step}
use Rattle.sched_driver.proofs.Kits.{token-fits}
use Rattle.sched_driver.proofs.Own.{took-own}
use Rattle.sched_driver.proofs.driver.Driver.step_done.Goals as goal

pub step_done-requires-clause-took : goal.step_done-requires-clause-took
step_done-requires-clause-took c = took-own c.self.inside.sched (Step c.args.rid c.args.pos) c.history-known.ensures.sched c.self.invariant.own

pub step_done-requires-clause-kit : goal.step_done-requires-clause-kit
step_done-requires-clause-kit c = token-fits c.self.inside.sched c.args.rid (record { source = c.args.source }) c.history-known.ensures.sched
