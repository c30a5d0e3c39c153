use Rattle.std.proofs.Common.{◌≡◌, drop}
use Rattle.sched_state.specs.State.{top_of}
use Rattle.sched_state.proofs.picking.top.Given as goal

-- what is still to come decides
abbrev pub invariant-loop-rid : goal.invariant-loop-rid
invariant-loop-rid l = top_of l.runs.runs (drop l.rid-index l.stack) l.pipeline ≡ top_of l.runs.runs l.stack l.pipeline
