-- What there is to do in a state.
use Rattle.std.specs.Prelude.{◌≡◌, ◌≢◌, true, false, [], Some, None}
use Rattle.exp_model.specs.declared.session.Session.{Session}
use Rattle.sched_state.specs.declared.looking.Look.{Look}
use Rattle.sched_state.specs.declared.looking.Look.TheVariants.{Over, Due, Wait, Jump, Stuck}
use Rattle.sched_state.specs.State.{SchedState}
use Rattle.sched_state.specs.Picks.{is_over, next_date, pick}

-- the first that holds: all is over; a job is due; one is in flight; the clock
-- moves on. Else the state is stuck, which none that a lawful history leads to is
abbrev pub LooksAs : Session → SchedState → Look → Type 0
LooksAs session state Over = is_over state ≡ true
LooksAs session state (Due job) = (is_over state ≡ false) × (pick session state ≡ Some job)
LooksAs session state Wait = (is_over state ≡ false) × (pick session state ≡ None) × (state.flying ≢ [])
LooksAs session state (Jump clock) =
    (is_over state ≡ false) × (pick session state ≡ None) × (state.flying ≡ []) × (next_date state ≡ Some clock)
LooksAs session state Stuck =
    (is_over state ≡ false) × (pick session state ≡ None) × (state.flying ≡ []) × (next_date state ≡ None)
