use Rattle.std.proofs.Common.{drop}
use Rattle.trace_fates.specs.Passes.{known}
use Rattle.trace_fates.proofs.Backwards.{IsTold, Knows}
use Rattle.trace_fates.proofs.overriding.tell_overridden.Given as goal

-- those from this place on have their fates, and the map has the first of them at each channel and stamp
abbrev pub invariant-loop-i : goal.invariant-loop-i
invariant-loop-i l = record {
  told : IsTold l.initial.outputs l.outputs l.i;
  knows : Knows (known l.later) (drop l.i l.initial.outputs);
}
