-- The datasets that a history set.
use Rattle.std.specs.Prelude.{ℕ, List, [], ◌∷◌, fold, bytes_eq, if◌then◌else◌, Option, Some, None}
use Rattle.rtio_types.specs.declared.request.Request.TheVariants as ask
use Rattle.rtio_types.specs.declared.request.Value.{Value}
use Rattle.rtio_core.specs.declared.data.Act.{Act}
use Rattle.rtio_core.specs.declared.data.Act.TheVariants.{Asked}
use Rattle.rtio_core.specs.declared.data.Entry.{Entry}

-- the name that an act sets, and its value
abbrev pub dataset_in : Act → Option (List ℕ × Value)
dataset_in (Asked (ask.Data name value) reply at) = Some (name, value)
dataset_in act = None

-- the datasets with a value under a name: a known name keeps its place, and a new one goes last
abbrev pub with_dataset : List (List ℕ × Value) → List ℕ → Value → List (List ℕ × Value)
with_dataset [] name value = (name, value) ∷ []
with_dataset (dataset ∷ rest) name value =
    if bytes_eq name dataset.0 then (dataset.0, value) ∷ rest else dataset ∷ with_dataset rest name value

-- the datasets after an act that sets one, or none
abbrev pub then_set : List (List ℕ × Value) → Option (List ℕ × Value) → List (List ℕ × Value)
then_set datasets None = datasets
then_set datasets (Some dataset) = with_dataset datasets dataset.0 dataset.1

-- the names that were set, in the order of first setting, each with the value that it got last
abbrev pub datasets_of : List Entry → List (List ℕ × Value)
datasets_of history = fold (λ datasets (entry : Entry). then_set datasets (dataset_in entry.act)) [] history
