-- A scheduler's history as a desk sees it.
use Rattle.std.specs.Prelude.{ℕ, List, map}
use Rattle.sched_state.specs.declared.entry.SchedAct.{SchedAct}
use Rattle.sched_state.specs.declared.entry.SchedEntry.{SchedEntry}

-- each act with the number of its chair
abbrev pub booked_acts : List SchedEntry → List (ℕ × SchedAct)
booked_acts history = map (λ (entry : SchedEntry). (entry.chair, entry.act)) history
