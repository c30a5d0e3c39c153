use Rattle.std.proofs.Common.{◌≡◌, drop}
use Rattle.slack_meaning.specs.Expressions.{held_by}
use Rattle.slack_state.proofs.values.numbers_of.Given as goal

abbrev pub invariant-loop-variable : goal.invariant-loop-variable
invariant-loop-variable l = held_by l.fn.variables l.fn.name ≡ held_by (drop l.variable-index l.fn.variables) l.fn.name
