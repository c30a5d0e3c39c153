-- What the sums of a round come to.
use Rattle.std.specs.Prelude.{ℕ, zero, suc, ◌+◌}
use Rattle.rtio_types.specs.Time.{reading}
use Rattle.rtio_bench.specs.Reading.{cycle_of_edge}

-- the stamps of so many edges, added up
abbrev pub stamps_sum : ℕ → ℕ
stamps_sum zero = 0
stamps_sum (suc number) = stamps_sum number + reading (cycle_of_edge number)

-- the lengths of so many recordings, added up: each is as long as its number
abbrev pub lengths_sum : ℕ → ℕ
lengths_sum zero = 0
lengths_sum (suc number) = lengths_sum number + number
