use Rattle.std.proofs.Common.{◌==◌, length}
use Rattle.std.specs.List.{slice_split}
use Rattle.option_values.specs.Lists.{named_of, recordings_of}
use Rattle.option_values.proofs.Loops.{Follows}
use Rattle.option_values.proofs.recordings.read_recordings.Given as goal

abbrev pub invariant-loop-part : goal.invariant-loop-part
invariant-loop-part l =
    (goal.iterator-loop-part).can_next l.part-iterator × (goal.iterator-loop-part).is_finite l.part-iterator
    × Follows named_of (slice_split (λ b. b == 44) l.text) l.recordings.items (length l.yielded) (recordings_of l.text)
