use Rattle.std.proofs.Common.{◌≡◌, length}
use Rattle.rtio_core.specs.Handed.{are_names_different}
use Rattle.rtio_core.proofs.named.are_names_different.Given as goal

abbrev pub invariant-loop-first : goal.invariant-loop-first
invariant-loop-first l = are_names_different l.left ≡ are_names_different l.kept

abbrev pub decreases-loop-first : goal.decreases-loop-first
decreases-loop-first l = length l.left
