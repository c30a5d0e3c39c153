-- The cycle of a lane's first event, as the code keeps it.
use Rattle.std.specs.Prelude.{ℕ, ◌≡◌, ◌<◌, ◌-◌, ◌^◌, List, Option, Some, None, option_map, slice_get}
use Rattle.rtio_types.specs.declared.event.Event.{Event}
use Rattle.rtio_types.specs.Time.{cycle_of}

-- what stands for no cycle: the greatest number of 64 bits
abbrev pub no_cycle : ℕ
no_cycle = 2 ^ 64 - 1

-- a number stands for a cycle of an event that may be missing: it is that cycle, which no_cycle is above
abbrev pub IsFirst : ℕ → Option ℕ → Type 0
IsFirst n None = n ≡ no_cycle
IsFirst n (Some cycle) = (n ≡ cycle) × (cycle < 2 ^ 60)

-- the cycle of the first event, if there is one
abbrev pub front_cycle : List (ℕ × Event) → Option ℕ
front_cycle events = option_map (λ p. cycle_of p.1) (slice_get events 0)
