use Rattle.desk_bench.specs.Rounds.{IsSame}
use Rattle.desk_bench.proofs.rounds.put_all.Given as goal

abbrev pub invariant-loop-number : goal.invariant-loop-number
invariant-loop-number g l = IsSame l.fn.chair l.chair
