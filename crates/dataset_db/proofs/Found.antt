-- Datasets that are found by their names.
use Rattle.std.proofs.Common.{◌≡◌, ℕ, zero, suc, true, false, List, [], ◌∷◌, Some, sym, ap, ◌∙◌, bytes_eq}
use Rattle.std.specs.Prelude.{slice_get}
use Rattle.std.specs.List.{IsDistinct, AllByRecursion}
use Rattle.std.specs.Map.{keys_of}
use Rattle.std.proofs.lemmas.Map.Keys.{IsDistinct-head, IsDistinct-tail}
use Rattle.std.proofs.lemmas.Slice.Eq.{bytes_eq-Decides}
use Rattle.dataset_db.specs.declared.datasets.Entry.{Entry}
use Rattle.dataset_db.specs.Datasets.{Dataset, dataset_of}
use Rattle.dataset_db.specs.Fields.{Key, same_key, dataset, datasets, IsInside}
use Rattle.dataset_db.proofs.Copied.{at_place, differs}

-- the dataset at a place of the entries
pub slice_get-datasets : (entries : List (Key × Entry)) (position : ℕ) (entry : Key × Entry) → slice_get entries position ≡ Some entry → slice_get (datasets entries) position ≡ Some (dataset entry)
slice_get-datasets [] position entry at = absurd (cc)
slice_get-datasets (first ∷ entries) zero entry at =
    let equal : first ≡ entry = cc in
    ap (λ e. Some (dataset e)) equal
slice_get-datasets (first ∷ entries) (suc position) entry at = slice_get-datasets entries position entry at

-- it is the one that its key finds
pub dataset_of-at : (entries : List (Key × Entry)) (position : ℕ) (entry : Key × Entry) → IsDistinct same_key (keys_of entries) → slice_get entries position ≡ Some entry → dataset_of (datasets entries) entry.0.items ≡ Some (dataset entry)
dataset_of-at [] position entry distinct at = absurd (cc)
dataset_of-at (first ∷ entries) zero entry distinct at =
    let equal : first ≡ entry = cc in
    let same : bytes_eq entry.0.items first.0.items ≡ true = (bytes_eq-Decides entry.0.items first.0.items).1 (ap (λ e. e.0.items) (sym equal)) in
    rw same (ap (λ e. Some (dataset e)) equal)
dataset_of-at (first ∷ entries) (suc position) entry distinct at =
    let apart : bytes_eq first.0.items entry.0.items ≡ false = at_place first.0 entries position entry (IsDistinct-head same_key first.0 (keys_of entries) distinct) at in
    rw (differs first.0.items entry.0.items apart) (dataset_of-at entries position entry (IsDistinct-tail same_key first.0 (keys_of entries) distinct) at)

named_at : (entries : List (Key × Entry)) (position : ℕ) (entry : Key × Entry) → AllByRecursion (λ e. e.0.items ≡ e.1.name) entries → slice_get entries position ≡ Some entry → entry.0.items ≡ entry.1.name
named_at [] position entry named at = absurd (cc)
named_at (first ∷ entries) zero entry named at =
    let equal : first ≡ entry = cc in
    ap (λ e. e.0.items) (sym equal) ∙ named.0 ∙ ap (λ e. e.1.name) equal
named_at (first ∷ entries) (suc position) entry named at = named_at entries position entry named.1 at

-- the name of a place finds the dataset of that place
pub found-at : (entries : List (Key × Entry)) (all : List Dataset) (position : ℕ) (entry : Key × Entry) → datasets entries ≡ all → IsInside entries → slice_get entries position ≡ Some entry → dataset_of all entry.1.name ≡ slice_get all position
found-at entries all position entry all_are inside at =
    ap (λ name. dataset_of all name) (sym (named_at entries position entry inside.named at))
    ∙ ap (λ ds. dataset_of ds entry.0.items) (sym all_are)
    ∙ dataset_of-at entries position entry inside.distinct at
    ∙ sym (slice_get-datasets entries position entry at)
    ∙ ap (λ ds. slice_get ds position) all_are
