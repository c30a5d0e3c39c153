-- What the report of a step comes to, as the code has it.
use Rattle.std.specs.Prelude.{◌≡◌, ℕ, ◌+◌, ◌^◌, ◌<◌, Some}
use Rattle.exp_runs.specs.declared.run.Run.{Run}
use Rattle.exp_runs.specs.Keys.{run_of}
use Rattle.sched_state.specs.declared.ending.StepEnd.{StepEnd}
use Rattle.sched_state.specs.State.{SchedState}
use Rattle.sched_state.specs.Reports.{Effect}

-- the word of a step and where its run stands then, with the state that the step leaves
abbrev pub effect_of : StepEnd → SchedState → Effect
effect_of end state = record { word = end.word; status = end.status; state = state }

-- the run is there, and its position may rise
abbrev pub CanMoveOn : ℕ → SchedState → Type 0
CanMoveOn rid state = (run : Run) × (run_of state.runs rid ≡ Some run) × (run.pos + 1 < 2 ^ 32)
