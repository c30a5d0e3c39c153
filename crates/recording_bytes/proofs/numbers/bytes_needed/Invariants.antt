use Rattle.std.proofs.Common.{◌≡◌, ◌+◌, length}
use Rattle.recording_bytes.specs.Numbers.{few_bytes}
use Rattle.recording_bytes.proofs.numbers.bytes_needed.Given as goal

abbrev pub invariant-loop-rest : goal.invariant-loop-rest
invariant-loop-rest l = l.width + length (few_bytes 8 l.rest) ≡ length (few_bytes 8 l.number)

abbrev pub decreases-loop-rest : goal.decreases-loop-rest
decreases-loop-rest l = l.rest
