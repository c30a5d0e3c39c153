-- Which runs wait for a step, and are to be run with what their preparation made.
use Rattle.std.specs.Prelude.{ℕ, Bool, true, false, List, [], ◌∷◌}
use Rattle.exp_runs.specs.declared.run.Run.{Run}
use Rattle.exp_runs.specs.declared.run.Status.{Status}
use Rattle.exp_runs.specs.declared.run.Status.TheVariants as status
use Rattle.sched_state.specs.declared.entry.Flight.{Flight}
use Rattle.sched_state.specs.declared.entry.JobName.{JobName}
use Rattle.sched_state.specs.State.{SchedState, passes}
use Rattle.sched_laws.specs.Sound.{jobs_of}

abbrev pub are_none : List JobName → Bool
are_none [] = true
are_none (job ∷ jobs) = false

-- it is prepared or paused, or it is running and no step of it is in flight
abbrev pub waits_in : List JobName → Status → Bool
waits_in jobs status.Prepared = true
waits_in jobs status.Paused = true
waits_in jobs status.Running = are_none jobs
waits_in jobs other = false

abbrev pub is_waiting : List Flight → Run → Bool
is_waiting flying run = waits_in (jobs_of flying run.rid) run.status

abbrev pub waits : SchedState → ℕ → Bool
waits state rid = passes (is_waiting state.flying) state.runs rid
