-- The job that a chair has in flight.
use Rattle.std.specs.Prelude.{◌≡◌, ℕ, Some}
use Rattle.exp_runs.specs.declared.run.Run.{Run}
use Rattle.exp_runs.specs.Keys.{run_of}
use Rattle.sched_state.specs.declared.entry.Flight.{Flight}
use Rattle.sched_state.specs.declared.entry.JobName.{JobName}
use Rattle.sched_state.specs.declared.entry.SchedAct.{SchedAct}
use Rattle.sched_state.specs.Lawful.{IsFlying}
use Rattle.sched_laws.specs.Workers.{reported}
use Rattle.sched_core.specs.declared.answer.Job.{Job}
use Rattle.sched_core.specs.Calls.{IsJobFor, name_of, with_entry}
use Rattle.sched_core.specs.Scheds.{SchedValue, sched_state}
use Rattle.lab_kits.specs.declared.kit.Kit.{Kit}
use Rattle.lab_kits.specs.Kits.{IsKitOf, KitCall, KitText, kit_source}
use Rattle.lab_ties.specs.Judged.{IsJudged}

-- the chair took this job, and hasn't reported it
abbrev pub in_flight : (who : ℕ) → JobName → Flight
in_flight who job = record { chair = who; job = job }

-- it is in flight, and others may be too
abbrev pub Flies : (who : ℕ) → JobName → SchedValue → Type 0
Flies who job sched = IsFlying (sched_state sched) who job

-- the chair has taken the job, which is in flight, with what belongs to it
pub record HasTaken (who : ℕ) (job : Job Kit) (sched : SchedValue) : Type 0 where
  pub flies : Flies who (name_of job) sched
  pub is : IsJobFor kit_source KitText KitCall sched.session (sched_state sched) job

-- the run is there, and the kit is one for it
abbrev pub HasKit : SchedValue → (rid : ℕ) → Kit → Type 0
HasKit sched rid kit = (run : Run) × (run_of (sched_state sched).runs rid ≡ Some run) × IsKitOf sched.session run kit

-- the chair has reported the job by one entry; where that tells of a preparation, its source was judged rightly
pub record HasReported (who : ℕ) (job : JobName) (old new : SchedValue) : Type 0 where
  pub act : SchedAct
  pub entry : new ≡ with_entry who act old
  pub reports : reported act ≡ Some job
  pub judged : IsJudged old.session old.history act
