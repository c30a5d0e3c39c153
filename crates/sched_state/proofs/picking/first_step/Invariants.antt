use Rattle.std.proofs.Common.{◌≡◌, ◌-◌, List}
use Rattle.std.specs.List.{range_with_len}
use Rattle.exp_model.specs.declared.arrival.Arrival.{Arrival}
use Rattle.sched_state.specs.Picks.{stepping, first_with}
use Rattle.dataset_db.specs.Datasets.{Dataset}
use Rattle.sched_state.specs.Boards.{state_with}
use Rattle.sched_state.proofs.picking.first_step.Given as goal

-- the pipelines that are left decide
abbrev pub invariant-loop-pipeline : goal.invariant-loop-pipeline
invariant-loop-pipeline l =
    (left : List Arrival) (datasets : List Dataset) → first_with (stepping (state_with left datasets l.board)) (range_with_len l.pipeline (l.pipelines - l.pipeline)) ≡ first_with (stepping (state_with left datasets l.board)) (range_with_len 0 l.pipelines)
