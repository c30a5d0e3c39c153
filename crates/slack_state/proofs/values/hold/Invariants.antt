use Rattle.std.proofs.Common.{◌≡◌, ◌++◌, take, drop}
use Rattle.slack_meaning.specs.Expressions.{with_held}
use Rattle.slack_state.specs.Values.{held_of}
use Rattle.slack_state.proofs.values.hold.Given as goal

abbrev pub invariant-loop-i : goal.invariant-loop-i
invariant-loop-i l =
    with_held l.fn.variables l.name (held_of l.held) ≡ take l.i l.variables ++ with_held (drop l.i l.variables) l.name (held_of l.held)
