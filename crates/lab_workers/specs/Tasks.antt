-- What a worker finds at the scheduler.
use Rattle.std.specs.Prelude.{◌≡◌, ℕ, List, [], ◌∷◌, Some, None, IsTrue}
use Rattle.exp_model.specs.declared.session.Session.{Session}
use Rattle.sched_state.specs.declared.entry.JobName.{JobName}
use Rattle.sched_state.specs.declared.entry.SchedEntry.{SchedEntry}
use Rattle.sched_state.specs.Lawful.{halted_by, state_after}
use Rattle.sched_state.specs.Picks.{is_over}
use Rattle.sched_laws.specs.Ladder.{and_takes}
use Rattle.stage_work.specs.Tasks.{IsTaskIn, job_of}
use Rattle.lab_workers.specs.declared.turns.Turn.{Turn}
use Rattle.lab_workers.specs.declared.turns.Turn.TheVariants as turn

-- the history ends with the taking of the job by this chair
abbrev pub IsTakenLast : (who : ℕ) → JobName → List SchedEntry → Type 0
IsTakenLast who job sched = (before : List SchedEntry) × (sched ≡ and_takes before who job)

-- the job that a worker found
abbrev pub job_in : Turn → List JobName
job_in (turn.Job it) = job_of it ∷ []
job_in other = []

-- what a worker found, where this is the scheduler's history then
abbrev pub IsTurnIn : Session → List SchedEntry → (who : ℕ) → Turn → Type 0
IsTurnIn session sched who (turn.Job it) = IsTakenLast who (job_of it) sched × IsTaskIn session sched it
IsTurnIn session sched who turn.Idle = Unit {0}
IsTurnIn session sched who turn.Over = (halted_by sched ≡ None) × IsTrue (is_over (state_after session sched))
IsTurnIn session sched who (turn.Stopped by) = halted_by sched ≡ Some by
