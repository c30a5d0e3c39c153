use Rattle.std.proofs.Common.{◌≡◌, take}
use Rattle.std.specs.Prelude.{filter, ◌==◌}
use Rattle.output_merge.specs.Summaries.{summary_of}
use Rattle.output_merge.proofs.group.group_of.Given as goal

abbrev pub invariant-loop-i : goal.invariant-loop-i
invariant-loop-i l = l.group ≡ summary_of (filter (λ p. p.1.channel == l.channel) (take l.i l.heads.items))
