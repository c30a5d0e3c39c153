-- What the merge asks of the events that it is given.
use Rattle.std.specs.Prelude.{ℕ, Bool, ◌==◌, List}
use Rattle.std.specs.List.{list_all}
use Rattle.rtio_types.specs.declared.event.Event.{Event}
use Rattle.rtio_types.specs.Time.{cycle_of}

-- all are of this cycle
abbrev pub are_of_cycle : ℕ → List (ℕ × Event) → Bool
are_of_cycle cycle pairs = list_all (λ p. cycle_of p.1 == cycle) pairs
