-- Where the datasets were set.
use Rattle.std.specs.Prelude.{◌≡◌, ℕ, List, map, slice_get, Option, Some}
use Rattle.std.specs.Option.{option_and_then}
use Rattle.rtio_types.specs.declared.request.Value.{Value}
use Rattle.rtio_core.specs.declared.data.Entry.{Entry}
use Rattle.sim_report.specs.declared.key.Key.{Key}
use Rattle.sim_report.specs.Datasets.{dataset_in}

-- the name that the entry at a place sets, and its value
abbrev pub set_at : List Entry → ℕ → Option (List ℕ × Value)
set_at history place = option_and_then (λ (entry : Entry). dataset_in entry.act) (slice_get history place)

-- a name with what is set at its place
abbrev pub at_place : List Entry → Key × ℕ → List ℕ × Option (List ℕ × Value)
at_place history kept = (kept.0.name, set_at history kept.1)

-- these datasets are set at these places, under their names
abbrev pub ArePlaces : List Entry → List (Key × ℕ) → List (List ℕ × Value) → Type 0
ArePlaces history places datasets = map (at_place history) places ≡ map (λ dataset. (dataset.0, Some dataset)) datasets
