use Rattle.std.specs.Prelude.{◌≡◌, Some, None}
use Rattle.rtio_core.specs.Entries.{open_session}
use Rattle.sent_outputs.proofs.outputs.send_all.Given as goal

-- the session is open, and nothing waits
abbrev pub invariant-loop-number : goal.invariant-loop-number
invariant-loop-number l = (open_session l.core.history ≡ Some (0, 0)) × (l.core.waiting ≡ None)
