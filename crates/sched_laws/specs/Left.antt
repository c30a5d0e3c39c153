-- How many jobs are left, and that each is reported once.
use Rattle.std.specs.Prelude.{◌≡◌, ℕ, ◌+◌, ◌-◌, ◌*◌, ◌≤◌, Bool, List, ◌∷◌}
use Rattle.std.specs.Prelude.{◌++◌, length, count_by, is_some, Some, IsTrue}
use Rattle.std.specs.List.{AllByRecursion, sum_by}
use Rattle.exp_runs.specs.declared.run.Run.{Run}
use Rattle.exp_runs.specs.declared.run.Status.{Status}
use Rattle.exp_runs.specs.declared.run.Status.TheVariants.{Pending, Preparing, Prepared}
use Rattle.exp_runs.specs.declared.run.Status.TheVariants.{Running, Paused, RunDone, Analyzing}
use Rattle.exp_model.specs.declared.session.Session.{Session}
use Rattle.exp_model.specs.Sessions.{is_session}
use Rattle.sched_state.specs.declared.entry.JobName.{JobName}
use Rattle.sched_state.specs.declared.entry.SchedEntry.{SchedEntry}
use Rattle.sched_state.specs.State.{SchedState}
use Rattle.sched_state.specs.Reports.{run_steps}
use Rattle.sched_state.specs.Lawful.{IsLawful, state_after}
use Rattle.sched_laws.specs.Workers.{reported}

-- how many jobs of a run may still be reported: its preparation, the steps from its position on, and its analysis
abbrev pub left_in : ℕ → ℕ → Status → ℕ
left_in steps pos Pending = steps + 2
left_in steps pos Preparing = steps + 2
left_in steps pos Prepared = steps + 1
left_in steps pos Running = steps - pos + 1
left_in steps pos Paused = steps - pos + 1
left_in steps pos RunDone = 1
left_in steps pos Analyzing = 1
left_in steps pos other = 0

abbrev pub left_of : Session → Run → ℕ
left_of session run = left_in (length (run_steps session run)) run.pos run.status

-- those of all runs; each that may still come counts as one of 16 steps, and there are at most 64
abbrev pub jobs_left : Session → SchedState → ℕ
jobs_left session state = sum_by (left_of session) state.runs + 18 * (64 - length state.runs)

abbrev pub is_report : SchedEntry → Bool
is_report entry = is_some (reported entry.act)

-- with each report there is one job less, at least, and no entry adds any
abbrev pub ReportsUseUp : Type 0
ReportsUseUp =
    (session : Session) (before after : List SchedEntry) → IsTrue (is_session session) → IsLawful session (before ++ after)
    → jobs_left session (state_after session (before ++ after)) + count_by is_report after ≤ jobs_left session (state_after session before)

-- there are never more than 18 for each of 64 runs
abbrev pub FewJobsAreLeft : Type 0
FewJobsAreLeft =
    (session : Session) (history : List SchedEntry) → IsTrue (is_session session) → IsLawful session history
    → jobs_left session (state_after session history) ≤ 64 * 18

-- once a job is reported, no later entry reports it
abbrev pub JobsAreReportedOnce : Type 0
JobsAreReportedOnce =
    (session : Session) (early late : List SchedEntry) (entry : SchedEntry) (job : JobName) → IsTrue (is_session session)
    → IsLawful session (early ++ entry ∷ late)
    → reported entry.act ≡ Some job → AllByRecursion (λ (later : SchedEntry). reported later.act ≡ Some job → ⊥) late
