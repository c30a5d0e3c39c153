use Rattle.std.proofs.Common.{◌≡◌}
use Rattle.rtio_bench.specs.Sums.{lengths_sum}
use Rattle.rtio_bench.proofs.recordings.lengths_found.Given as goal

abbrev pub invariant-loop-number : goal.invariant-loop-number
invariant-loop-number l = (l.by_name ≡ lengths_sum l.number) × (l.by_handle ≡ lengths_sum l.number)
