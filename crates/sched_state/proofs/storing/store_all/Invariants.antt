use Rattle.std.proofs.Common.{◌≡◌, drop}
use Rattle.dataset_db.specs.Datasets.{datasets_after}
use Rattle.sched_state.specs.Datasets.{stage}
use Rattle.sched_state.proofs.storing.store_all.Given as goal

-- the steps that are left lead to what all lead to
abbrev pub invariant-loop-step : goal.invariant-loop-step
invariant-loop-step l =
    record {
      fine : (stage (drop l.step-index l.steps) l.datasets).fine ≡ (stage l.steps l.fn.datasets).fine;
      changes : datasets_after (stage (drop l.step-index l.steps) l.datasets).changes l.datasets ≡ datasets_after (stage l.steps l.fn.datasets).changes l.fn.datasets;
    }
