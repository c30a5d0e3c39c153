-- Which histories a scheduler may have.
use Rattle.std.specs.Prelude.{◌≡◌, ℕ, ◌+◌, Bool, true, false, List, [], ◌∷◌, ◌++◌}
use Rattle.std.specs.Prelude.{fold, slice_get, Option, Some, None, option_map}
use Rattle.exp_runs.specs.declared.run.Run.{Run}
use Rattle.exp_runs.specs.Keys.{run_of}
use Rattle.exp_model.specs.declared.session.Session.{Session}
use Rattle.exp_model.specs.declared.step.HostStep.{HostStep}
use Rattle.exp_model.specs.declared.step.HostStep.TheVariants as step
use Rattle.sched_state.specs.declared.entry.Flight.{Flight}
use Rattle.sched_state.specs.declared.entry.JobName.{JobName}
use Rattle.sched_state.specs.declared.entry.JobName.TheVariants.{Prepare, Step, Analyze}
use Rattle.sched_state.specs.declared.entry.KernelResult.{KernelResult}
use Rattle.sched_state.specs.declared.entry.SchedAct.{SchedAct}
use Rattle.sched_state.specs.declared.entry.SchedAct.TheVariants.{Took, Prepared, Stepped, Analyzed}
use Rattle.sched_state.specs.declared.entry.SchedAct.TheVariants.{SourceRefused, Jumped, Halted}
use Rattle.sched_state.specs.declared.entry.SchedEntry.{SchedEntry}
use Rattle.sched_state.specs.State.{SchedState}
use Rattle.sched_state.specs.Arrivals.{at_clock, opening}
use Rattle.sched_state.specs.Picks.{pick, taken, next_date}
use Rattle.sched_state.specs.Reports.{prepared, analyzed, refused, run_steps, step_effect}

-- what an entry changes
abbrev pub after_act : Session → ℕ → SchedAct → SchedState → SchedState
after_act session chair (Took job) state = taken chair job state
after_act session chair (Prepared rid) state = prepared session rid state
after_act session chair (Stepped rid pos pipeline clock result word) state = (step_effect session rid pos result state).state
after_act session chair (Analyzed rid) state = analyzed session rid state
after_act session chair (SourceRefused rid) state = refused rid state
after_act session chair (Jumped clock) state = at_clock clock state
after_act session chair Halted state = state

abbrev pub after_entry : Session → SchedState → SchedEntry → SchedState
after_entry session state entry = after_act session entry.chair entry.act state

-- the state after a history
abbrev pub state_after : Session → List SchedEntry → SchedState
state_after session history = fold (after_entry session) (opening session) history

-- the chair that halted the scheduler
abbrev pub halt_at : ℕ → SchedAct → Option ℕ
halt_at chair Halted = Some chair
halt_at chair act = None

abbrev pub halt_by : Option ℕ → SchedEntry → Option ℕ
halt_by (Some chair) entry = Some chair
halt_by None entry = halt_at entry.chair entry.act

abbrev pub halted_by : List SchedEntry → Option ℕ
halted_by history = fold halt_by None history

-- the chair took the job, and it is in flight
abbrev pub IsFlying : SchedState → ℕ → JobName → Type 0
IsFlying state chair job = (before : List Flight) × (after : List Flight) × (state.flying ≡ before ++ record { chair = chair; job = job } ∷ after)

abbrev pub is_kernel : HostStep → Bool
is_kernel (step.Kernel name args) = true
is_kernel other = false

-- a step of a kernel has a result, and no other has
abbrev pub HasResult : Option HostStep → Option KernelResult → Type 0
HasResult None result = ⊥
HasResult (Some (step.Kernel name args)) None = ⊥
HasResult (Some (step.Kernel name args)) (Some result) = Unit {0}
HasResult (Some other) None = Unit {0}
HasResult (Some other) (Some result) = ⊥

-- the step of a run at a position
abbrev pub found_step : Session → ℕ → Option Run → Option HostStep
found_step session pos None = None
found_step session pos (Some run) = slice_get (run_steps session run) pos

abbrev pub step_at : Session → SchedState → ℕ → ℕ → Option HostStep
step_at session state rid pos = found_step session pos (run_of state.runs rid)

-- what may come next, by the state before it
abbrev pub MayCome : Session → SchedState → ℕ → SchedAct → Type 0
MayCome session state chair (Took job) = pick session state ≡ Some job
MayCome session state chair (Prepared rid) = IsFlying state chair (Prepare rid)
MayCome session state chair (Stepped rid pos pipeline clock result word) =
    IsFlying state chair (Step rid pos)
    × (option_map (λ (run : Run). run.pipeline) (run_of state.runs rid) ≡ Some pipeline)
    × HasResult (step_at session state rid pos) result
    × (clock ≡ state.clock + 1)
    × (word ≡ (step_effect session rid pos result state).word)
MayCome session state chair (Analyzed rid) = IsFlying state chair (Analyze rid)
MayCome session state chair (SourceRefused rid) = IsFlying state chair (Prepare rid)
MayCome session state chair (Jumped clock) =
    (pick session state ≡ None) × (state.flying ≡ []) × (next_date state ≡ Some clock)
MayCome session state chair Halted = Unit {0}

-- once it is halted, jobs in flight are reported and nothing else comes
abbrev pub IsReport : SchedAct → Type 0
IsReport (Took job) = ⊥
IsReport (Jumped clock) = ⊥
IsReport Halted = ⊥
IsReport report = Unit {0}

abbrev pub IfHalted : Option ℕ → SchedAct → Type 0
IfHalted None act = Unit {0}
IfHalted (Some by) act = IsReport act

-- what may come next
abbrev pub MayFollow : Session → List SchedEntry → SchedEntry → Type 0
MayFollow session before entry =
    MayCome session (state_after session before) entry.chair entry.act × IfHalted (halted_by before) entry.act

-- each entry may follow those before it
abbrev pub IsLawfulAfter : Session → List SchedEntry → List SchedEntry → Type 0
IsLawfulAfter session before [] = Unit {0}
IsLawfulAfter session before (entry ∷ rest) =
    MayFollow session before entry × IsLawfulAfter session (before ++ entry ∷ []) rest

abbrev pub IsLawful : Session → List SchedEntry → Type 0
IsLawful session history = IsLawfulAfter session [] history
