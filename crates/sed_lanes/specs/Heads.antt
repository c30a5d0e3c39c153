-- Events with their submission numbers, and room for more.
use Rattle.std.specs.Prelude.{ℕ, Bool, List, nat_lt}
use Rattle.rtio_types.specs.declared.event.Event.{Event}
use Rattle.sed_lanes.specs.Sorting.{sorted}

-- an event with its submission number
abbrev pub Numbered : Type 0
Numbered = ℕ × Event

-- the pairs in order, and how many more there is room for
pub record HeadsState : Type 0 where
  pub items : List (ℕ × Event)
  pub room : ℕ

-- whether a pair was submitted before another
abbrev pub is_earlier : ℕ × Event → ℕ × Event → Bool
is_earlier p q = nat_lt p.0 q.0

-- the pairs in the order of submission
abbrev pub by_number : List (ℕ × Event) → List (ℕ × Event)
by_number pairs = sorted is_earlier pairs
