-- What an append leaves, as a value that is put back.
use Rattle.std.proofs.Common.{◌≡◌, ℕ, ℤ, Bool, true, false, List, [], ◌∷◌, ◌++◌, Some, refl, sym, ap, ◌∙◌}
use Rattle.std.specs.List.{IsDistinct}
use Rattle.std.specs.Map.{lookup, keys_of}
use Rattle.std.proofs.lemmas.Map.Keys.{IsDistinct-tail}
use Rattle.std.proofs.lemmas.Slice.Eq.{bytes_eq-Decides}
use Rattle.rtio_types.specs.declared.request.Value.{Value}
use Rattle.rtio_types.specs.declared.request.Value.TheVariants as value
use Rattle.dataset_db.specs.declared.datasets.Entry.{Entry}
use Rattle.dataset_db.specs.Datasets.{Dataset, with_dataset, after_append, longer}
use Rattle.dataset_db.specs.Fields.{Key, same_key, dataset, datasets, IsInside}
use Rattle.dataset_db.proofs.Entries.{is_key, LacksKey, lacks_behind, map-lacking, with_dataset-behind}

append-lacking : (name : List ℕ) (item : ℤ) (entries : List (Key × Entry)) → LacksKey name entries → after_append (datasets entries) name item ≡ datasets entries
append-lacking name item [] lacks = refl
append-lacking name item (entry ∷ entries) lacks = rw (lacks.0, append-lacking name item entries lacks.1) refl

pub append-datasets : (entries : List (Key × Entry)) (name : List ℕ) (items : List ℤ) (item : ℤ) (entry : Entry) → IsDistinct same_key (keys_of entries) → lookup (is_key name) entries ≡ Some entry → entry.value ≡ value.List items → with_dataset (datasets entries) name (value.List (items ++ item ∷ [])) entry.flags ≡ after_append (datasets entries) name item
append-datasets [] name items item entry distinct found is_list = absurd (cc)
append-datasets (first ∷ entries) name items item entry distinct found is_list =
    by (is_key name first.0) refl (append-datasets entries name items item entry (IsDistinct-tail same_key first.0 (keys_of entries) distinct))
  where
    by : (b : Bool) → is_key name first.0 ≡ b → (lookup (is_key name) entries ≡ Some entry → entry.value ≡ value.List items → with_dataset (datasets entries) name (value.List (items ++ item ∷ [])) entry.flags ≡ after_append (datasets entries) name item) → with_dataset (datasets (first ∷ entries)) name (value.List (items ++ item ∷ [])) entry.flags ≡ after_append (datasets (first ∷ entries)) name item
    by true is rest =
        let same : Some first.1 ≡ Some entry = rw is at found in
        let equal : first.1 ≡ entry = cc in
        let named : name ≡ first.0.items = (bytes_eq-Decides name first.0.items).0 is in
        let lacks = lacks_behind name first entries distinct is in
        let put = map-lacking name (value.List (items ++ item ∷ [])) entry.flags entries lacks in
        let kept = append-lacking name item entries lacks in
        let grown : longer item first.1.value ≡ value.List (items ++ item ∷ []) = ap (longer item) (ap (λ e. e.value) equal ∙ is_list) in
        rw (is, put, kept, grown, equal, named) refl
    by false isnt rest =
        with_dataset-behind name (value.List (items ++ item ∷ [])) entry.flags (dataset first) (datasets entries) isnt
        ∙ ap (λ others. dataset first ∷ others) (rest (rw isnt at found) is_list)
        ∙ rw isnt refl

-- what is left after the longer list was put back
pub appended-view : (entries : List (Key × Entry)) (all : List Dataset) (name bytes : List ℕ) (items : List ℤ) (item : ℤ) (entry : Entry) (longer_list : Value) → IsInside entries → datasets entries ≡ all → bytes ≡ name → Some entry ≡ lookup (is_key bytes) entries → entry.value ≡ value.List items → longer_list ≡ value.List (items ++ item ∷ []) → with_dataset all name longer_list entry.flags ≡ after_append all name item
appended-view entries all name bytes items item entry longer_list inside all_are same found list_is longer_is =
    ap (λ v. with_dataset all name v entry.flags) longer_is
    ∙ ap (λ n. with_dataset all n (value.List (items ++ item ∷ [])) entry.flags) (sym same)
    ∙ ap (λ ds. with_dataset ds bytes (value.List (items ++ item ∷ [])) entry.flags) (sym all_are)
    ∙ append-datasets entries bytes items item entry inside.distinct (sym found) list_is
    ∙ ap (λ ds. after_append ds bytes item) all_are
    ∙ ap (λ n. after_append all n item) same
