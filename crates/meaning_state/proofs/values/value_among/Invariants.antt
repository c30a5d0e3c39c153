use Rattle.std.proofs.Common.{◌≡◌, drop}
use Rattle.timeline_sem.specs.Expressions.{value_of}
use Rattle.meaning_state.proofs.values.value_among.Given as goal

abbrev pub invariant-loop-variable : goal.invariant-loop-variable
invariant-loop-variable l = value_of l.fn.variables l.fn.name ≡ value_of (drop l.variable-index l.fn.variables) l.fn.name
