-- The definitions computed on small pasts.
use Rattle.std.proofs.Common.{◌≡◌, ℕ, ◌+◌, ◌*◌, true, false, List, [], ◌∷◌, map, refl}
use Rattle.std.specs.Prelude.{pos, Some, None}
use Rattle.std.specs.List.{range_with_len}
use Rattle.rtio_types.specs.declared.event.Event.{Event}
use Rattle.rtio_types.specs.declared.event.Edge.{Edge}
use Rattle.rtio_types.specs.declared.request.Reply.TheVariants as answer
use Rattle.rtio_input.specs.Channel.{edge_reply}
use Rattle.rtio_input.specs.Past.{Overflowed, Read, Reset, unread_at}
use Rattle.rtio_input.specs.Script.{are_edges_ok}

-- the sensitivity of channel 24 from a stamp on
abbrev gate : ℕ → ℕ → Event
gate value stamp = record { channel = 24; address = 2; value = value; stamp = pos stamp }

abbrev rising : ℕ → Edge
rising stamp = record { channel = 24; stamp = pos stamp; rising = true }

abbrev falling : ℕ → Edge
falling stamp = record { channel = 24; stamp = pos stamp; rising = false }

-- one rising edge, and a gate for rising edges from 1000 to 1100
abbrev script : List Edge
script = rising 1040 ∷ []

abbrev gated : List Event
gated = gate 1 1000 ∷ gate 0 1100 ∷ []

script_ok : are_edges_ok script ≡ true
script_ok = refl

-- before the cycle of the edge it isn't decided whether there is one
before_edge : edge_reply (unread_at script (gate 1 1000 ∷ []) [] 129 24) 129 (pos 1100) ≡ None
before_edge = refl

-- the edge is there in its own cycle
at_edge : edge_reply (unread_at script (gate 1 1000 ∷ []) [] 130 24) 130 (pos 1100) ≡ Some (answer.Stamp (pos 1040))
at_edge = refl

-- whether there is one more is open until the bound is reached
next_waits : edge_reply (unread_at script gated (Read 130 24 ∷ []) 137 24) 137 (pos 1100) ≡ None
next_waits = refl

next_none : edge_reply (unread_at script gated (Read 130 24 ∷ []) 138 24) 138 (pos 1100) ≡ Some answer.NoEdge
next_none = refl

-- an edge at the bound isn't below it
at_bound : edge_reply (unread_at script gated [] 130 24) 130 (pos 1040) ≡ Some answer.NoEdge
at_bound = refl

-- with no sensitivity no edge is seen, nor a falling one where rising ones are asked for
unset : (unread_at script [] [] 130 24).stamps ≡ []
unset = refl

other_way : (unread_at (falling 1040 ∷ []) gated [] 138 24).stamps ≡ []
other_way = refl

both_ways : (unread_at (falling 1040 ∷ rising 1041 ∷ []) (gate 3 1000 ∷ []) [] 138 24).stamps ≡ pos 1040 ∷ pos 1041 ∷ []
both_ways = refl

-- in the cycle of the gate's own event an edge at its stamp is seen, and an earlier one isn't
within_cycle : (unread_at (rising 1001 ∷ rising 1002 ∷ rising 1003 ∷ []) (gate 1 1002 ∷ []) [] 125 24).stamps ≡ pos 1002 ∷ pos 1003 ∷ []
within_cycle = refl

-- an edge of cycle 0 isn't seen, whatever is put out
first_cycle : (unread_at (rising 7 ∷ rising 8 ∷ []) (gate 1 1 ∷ []) [] 10 24).stamps ≡ pos 8 ∷ []
first_cycle = refl

-- a reset drops what is unread, and closes the gate for the edges after it
after_reset : (unread_at (rising 1040 ∷ rising 1080 ∷ []) (gate 1 1000 ∷ []) (Reset 132 ∷ []) 138 24).stamps ≡ []
after_reset = refl

-- rising edges from 1008 on, every 8
abbrev many : ℕ → List Edge
many n = map (λ k. rising (1008 + 8 * k)) (range_with_len 0 n)

abbrev opened : List Event
opened = gate 1 1000 ∷ gate 0 2000 ∷ []

-- the 65th unread edge is dropped and sets the mark, and the 64th isn't
full_queue : edge_reply (unread_at (many 65) opened [] 250 24) 250 (pos 2000) ≡ Some answer.Overflow
full_queue = refl

not_full : edge_reply (unread_at (many 64) opened [] 250 24) 250 (pos 2000) ≡ Some (answer.Stamp (pos 1008))
not_full = refl

-- the answer clears the mark
told : edge_reply (unread_at (many 65) opened (Overflowed 250 24 ∷ []) 250 24) 250 (pos 2000) ≡ Some (answer.Stamp (pos 1008))
told = refl
