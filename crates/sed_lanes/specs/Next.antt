-- The cycle of the next event that the lanes hold.
use Rattle.std.specs.Prelude.{ℕ, List, [], ◌∷◌, map, min, slice_get, Option, Some, None, option_map}
use Rattle.rtio_types.specs.Time.{cycle_of}
use Rattle.sed_lanes.specs.Lanes.{LaneState, LanesState, held_events}

-- the lesser of two numbers, where one may be missing
abbrev pub lesser : Option ℕ → Option ℕ → Option ℕ
lesser None other = other
lesser (Some one) None = Some one
lesser (Some one) (Some other) = Some (min one other)

-- the least of the numbers, if there is one
abbrev pub least_of : List ℕ → Option ℕ
least_of [] = None
least_of (n ∷ ns) = lesser (Some n) (least_of ns)

-- the least cycle of a held event, if there is one
abbrev pub next_cycle : LanesState → Option ℕ
next_cycle s = least_of (map (λ p. cycle_of p.1) (held_events s))

-- the cycle of the first event that a lane holds, if it holds one
abbrev pub first_cycle : LaneState → Option ℕ
first_cycle lane = option_map (λ p. cycle_of p.1) (slice_get lane.held 0)
