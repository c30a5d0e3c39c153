-- What one holding of the scheduler leaves to a chair.
use Rattle.std.specs.Prelude.{◌≡◌, ℕ, List, [], ◌∷◌, ◌++◌, filter, map, Option, Some, None}
use mathlib.Core.List.{IsPrefix}
use Rattle.desk_rule.specs.Histories.{Each, acts_of}
use Rattle.exp_model.specs.declared.session.Session.{Session}
use Rattle.sched_state.specs.declared.entry.JobName.{JobName}
use Rattle.sched_state.specs.declared.entry.SchedAct.{SchedAct}
use Rattle.sched_state.specs.declared.entry.SchedAct.TheVariants.{Halted}
use Rattle.sched_state.specs.declared.entry.SchedEntry.{SchedEntry}
use Rattle.sched_state.specs.Lawful.{IsLawful, halted_by}
use Rattle.sched_core.specs.Booked.{booked_acts}
use Rattle.sched_core.specs.Calls.{entry_of}
use Rattle.sched_core.specs.Scheds.{SchedValue}
use Rattle.stage_work.specs.Judged.{IsJudged}
use Rattle.stage_work.specs.Ties.{reports_of}
use Rattle.desk_kernels.specs.Chairs.{IsSameChair, KnowsItsOwn}
use Rattle.lab_workers.specs.declared.turns.Turn.{Turn}
use Rattle.lab_workers.specs.Tasks.{IsTakenLast, IsTurnIn, job_in}
use Rattle.lab_workers.specs.Workers.{SchedChair, is_halt, owed, sched_entries}

-- the history goes on by these acts of the chair
abbrev pub goes_on : List SchedEntry → (who : ℕ) → List SchedAct → List SchedEntry
goes_on history who acts = history ++ map (entry_of who) acts

-- and the scheduler with it
abbrev pub adds : (who : ℕ) → List SchedAct → SchedValue → SchedValue
adds who acts sched = record sched { history = goes_on sched.history who acts }

-- the chair is the same, and has seen, put and taken more
pub record Follows (old new : SchedChair) : Type 0 where
  pub same : IsSameChair old new
  pub seen : IsPrefix old.seen new.seen
  pub own : IsPrefix old.own new.own
  pub takings : IsPrefix old.takings new.takings

-- The chair took the scheduler once, and found a lawful history that goes on from what it had seen, with just
-- the acts of its own that it had put. Behind that it put these acts, and has seen nothing further
pub record HasPut (session : Session) (found : List SchedEntry) (acts : List SchedAct) (old new : SchedChair) : Type 0 where
  pub lawful : IsLawful session found
  pub later : IsPrefix old.seen (booked_acts found)
  pub known : acts_of old.number (booked_acts found) ≡ old.own
  pub same : IsSameChair old new
  pub took : new.takings ≡ old.takings ++ booked_acts found ∷ []
  pub seen : new.seen ≡ booked_acts (goes_on found old.number acts)
  pub own : new.own ≡ old.own ++ acts

-- the acts report no step of a kernel and halt nothing, and of sources
-- they tell what is true where this is the scheduler's history
pub record AreQuiet (session : Session) (sched : List SchedEntry) (acts : List SchedAct) : Type 0 where
  pub steps : (pipeline : ℕ) → reports_of pipeline acts ≡ []
  pub halts : filter is_halt acts ≡ []
  pub judged : Each (IsJudged session sched) acts

-- the chair put such acts
pub record PutsQuietly (session : Session) (old new : SchedChair) : Type 0 where
  pub found : List SchedEntry
  pub acts : List SchedAct
  pub put : HasPut session found acts old new
  pub quiet : AreQuiet session (sched_entries new.seen) acts

-- it put such acts, by which it reported the job, if that is all that it had to report
pub record ReportsQuietly (session : Session) (job : JobName) (old new : SchedChair) : Type 0 where
  pub quietly : PutsQuietly session old new
  pub lands : owed old.own ≡ job ∷ [] → owed new.own ≡ []

-- the chair is the same and has put nothing; it may have seen more
pub record PutsNothing (old new : SchedChair) : Type 0 where
  pub follows : Follows old new
  pub own : new.own ≡ old.own
  pub knows : KnowsItsOwn old → KnowsItsOwn new

-- a halt is due where nobody halted the scheduler
abbrev pub halt_due : Option ℕ → List SchedAct
halt_due None = Halted ∷ []
halt_due (Some by) = []

-- the chair put a halt, where nobody had halted the scheduler that it found
abbrev pub HasHalted : Session → SchedChair → SchedChair → Type 0
HasHalted session old new = (found : List SchedEntry) × HasPut session found (halt_due (halted_by found)) old new

-- the scheduler's history went on by such acts of the chair, and this is what the chair found
pub record IsTurn (who : ℕ) (turn : Turn) (old new : SchedValue) : Type 0 where
  pub acts : List SchedAct
  pub went : new ≡ adds who acts old
  pub quiet : AreQuiet new.session new.history acts
  pub owes : (own : List SchedAct) → owed (own ++ acts) ≡ owed own ++ job_in turn
  pub lawful : IsLawful new.session new.history
  pub turn_is : IsTurnIn new.session new.history who turn

-- the same of the chair, which knows all that stands in the history
pub record HasTurned (session : Session) (turn : Turn) (old new : SchedChair) : Type 0 where
  pub quietly : PutsQuietly session old new
  pub owes : owed new.own ≡ owed old.own ++ job_in turn
  pub lawful : IsLawful session (sched_entries new.seen)
  pub turn_is : IsTurnIn session (sched_entries new.seen) new.number turn

-- The last time that the chair took the scheduler was after it was as the old one: it
-- asked for a job then, and this was the answer
pub record HasAsked (session : Session) (turn : Turn) (old new : SchedChair) : Type 0 where
  pub before : SchedChair
  pub since : IsPrefix old.takings before.takings
  pub turned : HasTurned session turn before new

-- the chair took this job last, in a lawful history, and knows its own acts
pub record HasTaken (session : Session) (job : JobName) (chair : SchedChair) : Type 0 where
  pub lawful : IsLawful session (sched_entries chair.seen)
  pub knows : KnowsItsOwn chair
  pub last : IsTakenLast chair.number job (sched_entries chair.seen)
