use Rattle.std.proofs.Common.{◌≡◌, take}
use Rattle.std.specs.Prelude.{map}
use Rattle.rtio_log.specs.Kinds.{lines_of}
use Rattle.rtio_log.specs.declared.LogKind.TheVariants.{Sequence}
use Rattle.sim_report.proofs.pending.missed.Given as goal

-- the numbers of the lines so far
abbrev pub invariant-loop-line : goal.invariant-loop-line
invariant-loop-line l = l.numbers.items ≡ map (λ p. p.0) (lines_of Sequence (take l.line-index l.log))
