use Rattle.std.proofs.Common.{◌≡◌, ◌*◌}
use Rattle.rtio_bench.specs.Sums.{lengths_sum, stamps_sum}
use Rattle.rtio_bench.proofs.rounds.all_rounds.Given as goal

abbrev pub invariant-loop-round : goal.invariant-loop-round
invariant-loop-round l =
    (l.stamps ≡ l._round * stamps_sum l.sizes.edges)
    × (l.by_name ≡ l._round * lengths_sum l.sizes.recordings)
    × (l.by_handle ≡ l._round * lengths_sum l.sizes.recordings)
