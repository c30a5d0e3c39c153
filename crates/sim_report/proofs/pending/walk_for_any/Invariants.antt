use Rattle.std.proofs.Common.{◌≡◌, take}
use Rattle.sim_report.proofs.Beyond.{any_beyond}
use Rattle.sim_report.proofs.pending.walk_for_any.Given as goal

-- what is known after the entries so far
abbrev pub invariant-loop-entry : goal.invariant-loop-entry
invariant-loop-entry l = l.pends ≡ any_beyond l.core.config (take l.entry-index l.entry-items) l.core.counter
