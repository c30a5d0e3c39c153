use Rattle.std.proofs.Common.{◌≡◌, ◌++◌, take, drop}
use Rattle.timeline_sem.specs.Expressions.{with_value}
use Rattle.meaning_state.specs.Values.{value_held}
use Rattle.meaning_state.proofs.values.hold.Given as goal

abbrev pub invariant-loop-i : goal.invariant-loop-i
invariant-loop-i l =
    with_value l.fn.variables l.name (value_held l.held) ≡ take l.i l.variables ++ with_value (drop l.i l.variables) l.name (value_held l.held)
