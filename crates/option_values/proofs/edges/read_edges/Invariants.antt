use Rattle.std.proofs.Common.{◌==◌, length}
use Rattle.std.specs.List.{slice_split}
use Rattle.option_values.specs.Lists.{edge_of, edges_of}
use Rattle.option_values.proofs.Loops.{Follows}
use Rattle.option_values.proofs.edges.read_edges.Given as goal

abbrev pub invariant-loop-part : goal.invariant-loop-part
invariant-loop-part l =
    (goal.iterator-loop-part).can_next l.part-iterator × (goal.iterator-loop-part).is_finite l.part-iterator
    × Follows edge_of (slice_split (λ b. b == 44) l.text) l.edges.items (length l.yielded) (edges_of l.text)
