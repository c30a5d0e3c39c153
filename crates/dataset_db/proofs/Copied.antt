-- Entries that are copied one by one.
use Rattle.std.proofs.Common.{◌≡◌, ℕ, zero, suc, ◌+◌, Bool, true, false, List, [], ◌∷◌, take, Some, refl, sym, ap, ◌∙◌, bytes_eq, add-one}
use Rattle.std.specs.Prelude.{slice_get}
use Rattle.std.specs.List.{IsDistinct, AllByRecursion}
use Rattle.std.specs.Map.{keys_of}
use Rattle.std.proofs.lemmas.Map.Keys.{IsDistinct-head, IsDistinct-tail}
use Rattle.std.proofs.lemmas.Slice.Eq.{bytes_eq-Decides}
use Rattle.indexmap.specs.IndexMap.{insert_entry}
use Rattle.dataset_db.specs.declared.datasets.Entry.{Entry}
use Rattle.dataset_db.specs.Datasets.{Dataset, with_dataset}
use Rattle.dataset_db.specs.Fields.{Key, same_key, dataset, datasets, IsInside}
use Rattle.dataset_db.proofs.Entries.{insert-datasets, with_dataset-behind, named-insert}

-- so many of the datasets are copied
pub record IsCopied (all : List Dataset) (n : ℕ) (copied : List (Key × Entry)) : Type 0 where
  pub same : datasets copied ≡ take n all
  pub inside : IsInside copied

-- two names that differ, the other way round
pub differs : (a b : List ℕ) → bytes_eq a b ≡ false → bytes_eq b a ≡ false
differs a b isnt = by (bytes_eq b a) refl
  where
    by : (t : Bool) → bytes_eq b a ≡ t → t ≡ false
    by false is = refl
    by true is =
        let same : b ≡ a = (bytes_eq-Decides b a).0 is in
        let again : bytes_eq a b ≡ true = (bytes_eq-Decides a b).1 (sym same) in
        let clash : true ≡ false = sym again ∙ isnt in
        absurd (cc)

-- a key before another isn't the same
pub at_place : (first : Key) (entries : List (Key × Entry)) (n : ℕ) (entry : Key × Entry) → AllByRecursion (λ key. same_key first key ≡ false) (keys_of entries) → slice_get entries n ≡ Some entry → same_key first entry.0 ≡ false
at_place first [] n entry all at = absurd (cc)
at_place first (e ∷ entries) zero entry all at =
    let equal : e ≡ entry = cc in
    ap (λ x. same_key first x.0) (sym equal) ∙ all.0
at_place first (e ∷ entries) (suc n) entry all at = at_place first entries n entry all.1 at

-- the next dataset goes behind those before it
with_next : (entries : List (Key × Entry)) (n : ℕ) (entry : Key × Entry) → IsDistinct same_key (keys_of entries) → slice_get entries n ≡ Some entry → with_dataset (take n (datasets entries)) entry.0.items entry.1.value entry.1.flags ≡ take (suc n) (datasets entries)
with_next [] n entry distinct at = absurd (cc)
with_next (first ∷ entries) zero entry distinct at =
    let equal : first ≡ entry = cc in
    ap (λ e. dataset e ∷ []) (sym equal)
with_next (first ∷ entries) (suc n) entry distinct at =
    let apart : bytes_eq first.0.items entry.0.items ≡ false = at_place first.0 entries n entry (IsDistinct-head same_key first.0 (keys_of entries) distinct) at in
    with_dataset-behind entry.0.items entry.1.value entry.1.flags (dataset first) (take n (datasets entries)) (differs first.0.items entry.0.items apart)
    ∙ ap (λ others. dataset first ∷ others) (with_next entries n entry (IsDistinct-tail same_key first.0 (keys_of entries) distinct) at)

-- one more is copied
pub copied-step : (entries copied new : List (Key × Entry)) (all : List Dataset) (n : ℕ) (entry : Key × Entry) (key : Key) (copy : Entry) → IsInside entries → datasets entries ≡ all → slice_get entries n ≡ Some entry → key.items ≡ entry.0.items → copy ≡ entry.1 → IsCopied all n copied → IsDistinct same_key (keys_of new) → new ≡ insert_entry same_key copied key copy → IsCopied all (n + 1) new
copied-step entries copied new all n entry key copy inside all_are at same_name same_entry before distinct inserted =
    let named : entry.0.items ≡ entry.1.name = named_at entries n entry inside.named at in
    record {
      same =
          ap datasets inserted
          ∙ insert-datasets copied key copy before.inside.distinct
          ∙ ap (λ ds. with_dataset ds key.items copy.value copy.flags) before.same
          ∙ ap (λ items. with_dataset (take n all) items copy.value copy.flags) same_name
          ∙ ap (λ e. with_dataset (take n all) entry.0.items e.value e.flags) same_entry
          ∙ ap (λ ds. with_dataset (take n ds) entry.0.items entry.1.value entry.1.flags) (sym all_are)
          ∙ with_next entries n entry inside.distinct at
          ∙ ap (take (suc n)) all_are
          ∙ rw (add-one) refl;
      inside = record { distinct = distinct; named = rw inserted (named-insert copied key copy before.inside.named (same_name ∙ named ∙ ap (λ e. e.name) (sym same_entry))) };
    }
  where
    named_at : (es : List (Key × Entry)) (i : ℕ) (e : Key × Entry) → AllByRecursion (λ x. x.0.items ≡ x.1.name) es → slice_get es i ≡ Some e → e.0.items ≡ e.1.name
    named_at [] i e named at_i = absurd (cc)
    named_at (first ∷ es) zero e named at_i =
        let equal : first ≡ e = cc in
        ap (λ x. x.0.items) (sym equal) ∙ named.0 ∙ ap (λ x. x.1.name) equal
    named_at (first ∷ es) (suc i) e named at_i = named_at es i e named.1 at_i
