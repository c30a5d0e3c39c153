-- Edges that are read one by one.
use Rattle.std.specs.Prelude.{◌≡◌, ℕ, ◌+◌, ◌%◌, List, [], ◌∷◌, ◌++◌, map, true, ℤ, pos, Some}
use Rattle.std.specs.List.{range_with_len}
use Rattle.rtio_types.specs.declared.event.Edge.{Edge}
use Rattle.rtio_types.specs.declared.event.Event.{Event}
use Rattle.rtio_types.specs.declared.request.Reply.TheVariants as answer
use Rattle.rtio_types.specs.Time.{reading}
use Rattle.rtio_input.specs.Channel.{InputsState, edge_reply}
use Rattle.rtio_input.specs.Past.{InputStep, Read, InputsStandFor, unread_at}

-- two inputs take turns
abbrev pub input_of : ℕ → ℕ
input_of number = 24 + number % 2

-- one edge in each cycle from the second on
abbrev pub cycle_of_edge : ℕ → ℕ
cycle_of_edge number = number + 2

-- the edge of a number, at the beginning of its cycle
abbrev pub edge_of : ℕ → Edge
edge_of number = record { channel = input_of number; stamp = pos (reading (cycle_of_edge number)); rising = true }

-- the gates of both inputs open for rising edges in cycle 1
abbrev pub gates : List Event
gates =
    record { channel = 24; address = 2; value = 1; stamp = pos (reading 1) }
    ∷ record { channel = 25; address = 2; value = 1; stamp = pos (reading 1) }
    ∷ []

-- the edge of the number was read in its cycle
abbrev pub read_of : ℕ → InputStep
read_of number = Read (cycle_of_edge number) (input_of number)

-- so many edges were read, each in its cycle
abbrev pub reads : ℕ → List InputStep
reads count = map read_of (range_with_len 0 count)

-- the stamp is the reply that is due to a request for the number's edge, and the inputs stand for its reading too
pub record IsRead (script : List Edge) (outputs : List Event) (steps : List InputStep) (number : ℕ) (stamp : ℤ) (after : InputsState) : Type 0 where
  pub right : edge_reply (unread_at script outputs steps (cycle_of_edge number) (input_of number)) (cycle_of_edge number) (pos (reading (cycle_of_edge number) + 1)) ≡ Some (answer.Stamp stamp)
  pub stands : InputsStandFor after script outputs (steps ++ read_of number ∷ []) (cycle_of_edge number)
