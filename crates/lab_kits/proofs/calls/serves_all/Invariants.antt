use Rattle.std.proofs.Common.{◌↔◌, drop}
use Rattle.std.specs.List.{AllByRecursion}
use Rattle.kern_syntax.specs.TreeOf.{tree_of}
use Rattle.sched_core.specs.Scheds.{HasCall}
use Rattle.lab_kits.specs.Calls.{HasCallOf}
use Rattle.lab_kits.proofs.calls.serves_all.Given as goal

-- all are served where those from here on are
abbrev pub invariant-loop-step : goal.invariant-loop-step
invariant-loop-step l =
    AllByRecursion (HasCall HasCallOf (tree_of l.compiled.0)) (drop l.step-index l.steps) ↔ AllByRecursion (HasCall HasCallOf (tree_of l.compiled.0)) l.steps
