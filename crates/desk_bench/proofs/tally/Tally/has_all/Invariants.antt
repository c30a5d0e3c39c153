use Rattle.std.proofs.Common.{◌≡◌, ℕ, ◌<◌}
use Rattle.std.specs.List.{range_with_len}
use Rattle.desk_rule.specs.Histories.{acts_of}
use Rattle.desk_bench.proofs.tally.Tally.has_all.Given as goal

-- the chairs before this one have put all their numbers
abbrev pub invariant-loop-by : goal.invariant-loop-by
invariant-loop-by l = (k : ℕ) → k < l.by → acts_of k l.self ≡ range_with_len 0 l.puts
