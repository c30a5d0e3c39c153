use Rattle.std.proofs.Common.{ap}
use Rattle.std.specs.Option.{option_copied}
use Rattle.sched_state.specs.declared.entry.JobName.TheVariants.{Prepare}
use Rattle.stage_work.proofs.Own.{not-there, run-there}
use Rattle.stage_work.proofs.reporting.run_in_flight.Goals as goal

-- the run of a job in flight is there
pub unreachable-requires : goal.unreachable-requires
unreachable-requires c =
    let there = run-there c.args.sched.now (Prepare c.args.rid) c.history-known.ensures.sched c.requires in
    not-there (option_copied c.get.result) _ _ c.args.rid there.0 (ap option_copied c.in-None.is) c.get.ensures c.runs.ensures there.1
