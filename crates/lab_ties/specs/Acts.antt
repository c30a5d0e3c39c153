-- What a chair did, in the order of a history.
use Rattle.std.specs.Prelude.{ℕ, List}
use Rattle.rtio_core.specs.declared.data.Act.{Act}
use Rattle.rtio_core.specs.declared.data.Entry.{Entry}
use Rattle.rtio_core.specs.Booked.{booked_acts as booked_core}
use Rattle.sched_state.specs.declared.entry.SchedAct.{SchedAct}
use Rattle.sched_state.specs.declared.entry.SchedEntry.{SchedEntry}
use Rattle.sched_core.specs.Booked.{booked_acts as booked_sched}
use Rattle.desk_rule.specs.Histories.{acts_of}

-- its acts at the scheduler
abbrev pub sched_acts : (chair : ℕ) → List SchedEntry → List SchedAct
sched_acts chair history = acts_of chair (booked_sched history)

-- its acts on a core
abbrev pub core_acts : (chair : ℕ) → List Entry → List Act
core_acts chair history = acts_of chair (booked_core history)
