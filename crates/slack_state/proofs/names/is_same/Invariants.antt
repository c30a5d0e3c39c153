use Rattle.std.proofs.Common.{◌≡◌, drop, bytes_eq}
use Rattle.slack_state.proofs.names.is_same.Given as goal

abbrev pub invariant-loop-i : goal.invariant-loop-i
invariant-loop-i l = bytes_eq l.fn.a l.fn.b ≡ bytes_eq (drop l.i l.fn.a) (drop l.i l.fn.b)
