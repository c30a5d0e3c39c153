use Rattle.std.proofs.Common.{◌≡◌, ◌+◌, drop}
use Rattle.slack_state.specs.Entries.{place_of}
use Rattle.slack_state.proofs.values.place_of.Given as goal

abbrev pub invariant-loop-i : goal.invariant-loop-i
invariant-loop-i l = place_of l.fn.variables l.fn.name ≡ l.i + place_of (drop l.i l.fn.variables) l.fn.name
