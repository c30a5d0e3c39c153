-- The script: the edges that the inputs get.
use Rattle.std.specs.Prelude.{ℕ, ◌^◌, Bool, true, ◌&&◌, ◌||◌, List, [], ◌∷◌}
use Rattle.std.specs.Prelude.{length, filter, nat_le, nat_lt, pos, int_le, int_lt}
use Rattle.std.specs.Ordering.{int_eq}
use Rattle.std.specs.List.{list_all}
use Rattle.limits.specs.Limits.{most_edges, stamps_end}
use Rattle.rtio_types.specs.declared.event.Edge.{Edge}
use Rattle.rtio_types.specs.Time.{cycle_of_stamp}
use Rattle.rtio_types.specs.Board.{is_input}

-- the cycle of an edge
abbrev pub edge_cycle : Edge → ℕ
edge_cycle x = cycle_of_stamp x.stamp

-- an edge of an input, with a stamp of a script
abbrev pub is_edge_ok : Edge → Bool
is_edge_ok x = is_input x.channel && int_le (pos 0) x.stamp && int_lt x.stamp (pos stamps_end)

-- by stamp, and then by channel
abbrev pub is_edge_before : Edge → Edge → Bool
is_edge_before x y = int_lt x.stamp y.stamp || (int_eq x.stamp y.stamp && nat_lt x.channel y.channel)

-- each edge is before the next
abbrev pub are_rising : List Edge → Bool
are_rising [] = true
are_rising (x ∷ []) = true
are_rising (x ∷ y ∷ rest) = is_edge_before x y && are_rising (y ∷ rest)

-- few enough edges of inputs, strictly rising by stamp and channel
abbrev pub are_edges_ok : List Edge → Bool
are_edges_ok edges = nat_le (length edges) most_edges && list_all is_edge_ok edges && are_rising edges

-- none is of an earlier cycle than one before it
abbrev pub are_by_cycle : List Edge → Bool
are_by_cycle [] = true
are_by_cycle (x ∷ rest) = list_all (λ y. nat_le (edge_cycle x) (edge_cycle y)) rest && are_by_cycle rest

-- the edges are of inputs
abbrev pub are_of_inputs : List Edge → Bool
are_of_inputs edges = list_all (λ x. is_input x.channel) edges

-- the edges of the cycles that are still to come at a counter
abbrev pub later_edges : ℕ → List Edge → List Edge
later_edges counter edges = filter (λ x. nat_lt counter (edge_cycle x)) edges

-- the edges of the cycles that a counter went through. It begins at 0, so cycle 0 isn't one of them
abbrev pub edges_up_to : ℕ → List Edge → List Edge
edges_up_to counter edges = filter (λ x. nat_lt 0 (edge_cycle x) && nat_le (edge_cycle x) counter) edges
