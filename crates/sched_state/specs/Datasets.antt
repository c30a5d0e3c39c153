-- What the steps of a run do to datasets.
use Rattle.std.specs.Prelude.{ℕ, ℤ, Bool, true, false, List, [], ◌∷◌, ◌++◌, map, if◌then◌else◌, Option, Some, None}
use Rattle.rtio_types.specs.declared.request.Value.{Value}
use Rattle.rtio_types.specs.declared.request.Value.TheVariants as value
use Rattle.exp_model.specs.declared.step.HostStep.{HostStep}
use Rattle.exp_model.specs.declared.step.HostStep.TheVariants.{Set, Append, Sum}
use Rattle.dataset_db.specs.declared.datasets.Flags.{Flags}
use Rattle.dataset_db.specs.Datasets.{Dataset, Change, set, append, datasets_after, is_list, sum_of, value_of}
use Rattle.sched_state.specs.declared.entry.DataSet.{DataSet}

-- what is set without a word on its flags is archived
abbrev pub plain_flags : Flags
plain_flags = record { broadcast = false; persist = false; archive = true }

-- an append needs a list, a sum a dataset
abbrev pub append_to : List ℕ → ℤ → Option Value → Option (List Change)
append_to name item None = None
append_to name item (Some kept) = if is_list kept then Some (append name item ∷ []) else None

abbrev pub sum_into : List ℕ → Option Value → Option (List Change)
sum_into target None = None
sum_into target (Some kept) = Some (set target (value.Int (sum_of kept)) plain_flags ∷ [])

-- how a step changes the datasets; none where it fails; steps of other kinds leave them
abbrev pub changes_by : HostStep → List Dataset → Option (List Change)
changes_by (Set name value broadcast persist archive) datasets =
    Some (set name value (record { broadcast = broadcast; persist = persist; archive = archive }) ∷ [])
changes_by (Append name item) datasets = append_to name item (value_of datasets name)
changes_by (Sum name target) datasets = sum_into target (value_of datasets name)
changes_by step datasets = Some []

-- what steps change, up to the first that fails, and whether all were done
pub record Stage : Type 0 where
  pub changes : List Change
  pub fine : Bool

abbrev pub with_front : List Change → Stage → Stage
with_front changes rest = record rest { changes = changes ++ rest.changes }

abbrev pub stage_after : (List Dataset → Stage) → List Dataset → Option (List Change) → Stage
stage_after further datasets None = record { changes = []; fine = false }
stage_after further datasets (Some changes) = with_front changes (further (datasets_after changes datasets))

abbrev pub stage : List HostStep → List Dataset → Stage
stage [] datasets = record { changes = []; fine = true }
stage (step ∷ steps) datasets = stage_after (λ next. stage steps next) datasets (changes_by step datasets)

-- what a kernel set
abbrev pub kernel_changes : List DataSet → List Change
kernel_changes sets = map (λ (new : DataSet). set new.name new.value plain_flags) sets
