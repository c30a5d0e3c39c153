-- A driven scheduler as it is kept.
use Rattle.std.specs.Prelude.{◌≡◌, ℕ, Bool, false, if◌then◌else◌, Option, Some, None}
use Rattle.std.specs.List.{All}
use Rattle.exp_model.specs.declared.step.HostStep.{HostStep}
use Rattle.sched_state.specs.declared.entry.KernelResult.{KernelResult}
use Rattle.sched_state.specs.declared.entry.SchedAct.{SchedAct}
use Rattle.sched_state.specs.declared.entry.SchedAct.TheVariants.{Took}
use Rattle.sched_state.specs.declared.entry.SchedEntry.{SchedEntry}
use Rattle.sched_state.specs.Lawful.{is_kernel, step_at}
use Rattle.sched_core.specs.Scheds.{SchedValue, sched_state}
use Rattle.sched_driver.specs.declared.driver.Driver.TheInside.{Inside}

-- it is the scheduler
abbrev pub driver_value : Inside → SchedValue
driver_value a = a.sched

-- where the act is the taking of a job, chair 0 did it
abbrev pub IsTakenBy0 : ℕ → SchedAct → Type 0
IsTakenBy0 chair (Took job) = chair ≡ 0
IsTakenBy0 chair other = Unit {0}

abbrev pub IsOwn : SchedEntry → Type 0
IsOwn entry = IsTakenBy0 entry.chair entry.act

-- the session is the scheduler's, and chair 0 took each job
pub record IsDriver (a : Inside) : Type 0 where
  pub session : a.sched.session ≡ a.session
  pub own : All IsOwn a.sched.history

-- a step that is there is a kernel's
abbrev pub found_kernel : Option HostStep → Bool
found_kernel None = false
found_kernel (Some step) = is_kernel step

-- what is told of a step: the result, if the step is a kernel's
abbrev pub told_of : SchedValue → ℕ → ℕ → KernelResult → Option KernelResult
told_of sched rid place ran = if found_kernel (step_at sched.session (sched_state sched) rid place) then Some ran else None
