-- What is still to be put out.
use Rattle.std.specs.Prelude.{ℕ, Bool, List, map, filter, nat_lt}
use Rattle.std.specs.List.{list_any}
use Rattle.rtio_types.specs.declared.event.Event.{Event}
use Rattle.rtio_types.specs.Time.{cycle_of}
use Rattle.output_merge.specs.Live.{live}
use Rattle.rtio_core.specs.Entries.{judged_history}
use Rattle.rtio_core.specs.Core.{CoreState}

-- the event's cycle is above the counter
abbrev pub is_beyond : ℕ → ℕ × Event → Bool
is_beyond counter p = nat_lt counter (cycle_of p.1)

-- the accepted events that no reset cleared and whose cycle is above the counter, by number
abbrev pub pending_events : CoreState → List Event
pending_events core =
    map (λ p. p.1) (filter (is_beyond core.counter) (live (judged_history core.config core.history)))

-- there is one
abbrev pub pends : CoreState → Bool
pends core = list_any (is_beyond core.counter) (live (judged_history core.config core.history))
