use Rattle.std.proofs.Common.{◌≡◌, ◌++◌}
use Rattle.recording_bytes.specs.Numbers.{few_bytes}
use Rattle.recording_bytes.proofs.numbers.write_number.Given as goal

abbrev pub invariant-loop-rest : goal.invariant-loop-rest
invariant-loop-rest l = l.bytes.items ++ few_bytes 8 l.rest ≡ l.fn.bytes.items ++ few_bytes 8 l.number

abbrev pub decreases-loop-rest : goal.decreases-loop-rest
decreases-loop-rest l = l.rest
