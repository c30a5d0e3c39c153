-- The clock moves on while nothing is left to do before a later date.
use Rattle.std.specs.Prelude.{◌≡◌, ℕ, List, [], ◌∷◌, Some, None}
use Rattle.exp_model.specs.declared.session.Session.{Session}
use Rattle.sched_state.specs.State.{SchedState}
use Rattle.sched_state.specs.Arrivals.{at_clock}
use Rattle.sched_state.specs.Picks.{next_date, pick}

-- from one state to another, each time to the next date
abbrev pub JumpsTo : Session → SchedState → List ℕ → SchedState → Type 0
JumpsTo session from [] to = to ≡ from
JumpsTo session from (clock ∷ clocks) to =
    (pick session from ≡ None) × (from.flying ≡ []) × (next_date from ≡ Some clock) × JumpsTo session (at_clock clock from) clocks to
