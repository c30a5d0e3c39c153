use Rattle.std.proofs.Common.{◌≡◌, drop}
use Rattle.dataset_db.specs.Datasets.{datasets_after}
use Rattle.sched_state.specs.Datasets.{kernel_changes}
use Rattle.sched_state.proofs.storing.store_sets.Given as goal

-- what is still to be set leads to what all leads to
abbrev pub invariant-loop-set : goal.invariant-loop-set
invariant-loop-set l = datasets_after (kernel_changes (drop l.set-index l.sets)) l.datasets ≡ datasets_after (kernel_changes l.sets) l.fn.datasets
