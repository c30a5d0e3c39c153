use Rattle.std.proofs.Common.{◌≡◌, drop}
use Rattle.kern_calls.specs.Calls.{look_up}
use Rattle.kern_names.specs.ScopeOf.{scope_of}
use Rattle.slack_steps.proofs.kinds.kind_of_name.Given as goal

abbrev pub invariant-loop-place : goal.invariant-loop-place
invariant-loop-place l =
    look_up (scope_of l.fn.scope).names l.fn.name ≡ look_up (drop l.place (scope_of l.fn.scope).names) l.fn.name
