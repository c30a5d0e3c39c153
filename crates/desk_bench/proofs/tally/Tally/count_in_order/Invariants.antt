use Rattle.std.proofs.Common.{◌≡◌, take}
use Rattle.std.specs.List.{range_with_len}
use Rattle.desk_rule.specs.Histories.{acts_of}
use Rattle.desk_bench.proofs.tally.Tally.count_in_order.Given as goal

-- the numbers of the chair so far are those from 0 on
abbrev pub invariant-loop-entry : goal.invariant-loop-entry
invariant-loop-entry l = acts_of l.by (take l.entry-index l.entry-items) ≡ range_with_len 0 l.count
