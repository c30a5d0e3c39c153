use Rattle.std.proofs.Common.{◌≡◌, ◌++◌, drop}
use Rattle.timeline_sem.specs.Programs.{initial_values}
use Rattle.meaning_steps.proofs.functions.initial_values.Given as goal

abbrev pub invariant-loop-place : goal.invariant-loop-place
invariant-loop-place l =
    initial_values l.fn.names l.fn.args ≡ l.values.items ++ initial_values (drop l.place l.fn.names) l.left
