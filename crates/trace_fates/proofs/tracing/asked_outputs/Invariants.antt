use Rattle.std.proofs.Common.{◌≡◌, take}
use Rattle.std.specs.Prelude.{map}
use Rattle.trace_fates.specs.Asked.{outputs_of}
use Rattle.trace_fates.specs.Passes.{asked_output}
use Rattle.trace_fates.proofs.tracing.asked_outputs.Given as goal

-- the outputs of the entries so far
abbrev pub invariant-loop-entry : goal.invariant-loop-entry
invariant-loop-entry l = l.outputs.items ≡ map (asked_output l.counter) (outputs_of (take l.entry-index l.history))
