-- The edges of a pipeline's inputs.
use Rattle.std.specs.Prelude.{Bool, true, ◌&&◌, ◌||◌, List, [], ◌∷◌, length, nat_le, nat_lt, pos, int_le, int_lt}
use Rattle.std.specs.Ordering.{int_eq}
use Rattle.std.specs.List.{list_all}
use Rattle.limits.specs.Limits.{most_edges, stamps_end}
use Rattle.rtio_types.specs.declared.event.Edge.{Edge}
use Rattle.rtio_types.specs.Board.{is_input}

-- an edge of an input of the board, with a stamp of a script
abbrev pub is_edge : Edge → Bool
is_edge edge = is_input edge.channel && int_le (pos 0) edge.stamp && int_lt edge.stamp (pos stamps_end)

-- the one edge is before the other: by stamp, and then by channel
abbrev pub is_edge_before : Edge → Edge → Bool
is_edge_before a b = int_lt a.stamp b.stamp || (int_eq a.stamp b.stamp && nat_lt a.channel b.channel)

-- each edge is before the next
abbrev pub are_rising : List Edge → Bool
are_rising [] = true
are_rising (a ∷ []) = true
are_rising (a ∷ b ∷ rest) = is_edge_before a b && are_rising (b ∷ rest)

-- few enough edges of inputs, strictly rising by stamp and channel
abbrev pub are_edges : List Edge → Bool
are_edges edges = nat_le (length edges) most_edges && list_all is_edge edges && are_rising edges
