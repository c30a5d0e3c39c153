use Rattle.std.proofs.Common.{◌==◌, ℕ, List, length}
use Rattle.std.specs.List.{slice_split}
use Rattle.option_values.specs.Lists.{hold_of}
use Rattle.option_values.specs.Parts.{listed}
use Rattle.option_values.proofs.Loops.{Follows}
use Rattle.option_values.proofs.Holding.{AreHeld}
use Rattle.option_values.proofs.holds.read_holds.Given as goal

abbrev pub invariant-loop-part : goal.invariant-loop-part
invariant-loop-part l =
    (goal.iterator-loop-part).can_next l.part-iterator × (goal.iterator-loop-part).is_finite l.part-iterator
    × ((named : List (ℕ × ℕ)) × Follows hold_of (slice_split (λ b. b == 44) l.text) named (length l.yielded) (listed hold_of l.text)
    × AreHeld named l.holds l.next)
