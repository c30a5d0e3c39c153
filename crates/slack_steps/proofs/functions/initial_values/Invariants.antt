use Rattle.std.proofs.Common.{◌≡◌, ◌++◌, drop}
use Rattle.slack_meaning.specs.Programs.{initial_values}
use Rattle.slack_steps.proofs.functions.initial_values.Given as goal

abbrev pub invariant-loop-place : goal.invariant-loop-place
invariant-loop-place l =
    initial_values l.fn.names l.fn.args ≡ l.values.items ++ initial_values (drop l.place l.fn.names) (drop l.place l.fn.args)
