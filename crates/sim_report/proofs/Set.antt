-- Where datasets were set, entry by entry.
use Rattle.std.proofs.Common.{◌≡◌, ℕ, zero, suc, ◌+◌, ◌<◌, List, [], ◌∷◌, length, take, get_or, true, false, Bool, Option, Some, None, refl, sym, ap, ◌∙◌, arith, bytes_eq, map}
use Rattle.std.specs.Prelude.{IsSome, option_map, slice_get}
use Rattle.std.specs.Option.{option_and_then}
use Rattle.std.proofs.lemmas.List.{take_more}
use Rattle.std.proofs.lemmas.List.Sums.{fold-append}
use Rattle.std.proofs.lemmas.Option.{same_Some, slice_get-get_or}
use Rattle.std.proofs.lemmas.Slice.Eq.{bytes_eq-Decides}
use Rattle.indexmap.specs.IndexMap.{insert_entry}
use Rattle.rtio_types.specs.declared.request.Value.{Value}
use Rattle.rtio_core.specs.declared.data.Entry.{Entry}
use Rattle.sim_report.specs.declared.key.Key.{Key}
use Rattle.sim_report.specs.Datasets.{dataset_in, datasets_of, then_set, with_dataset}
use Rattle.sim_report.specs.Places.{ArePlaces, at_place, set_at}

abbrev pub same_key : Key → Key → Bool
same_key a b = bytes_eq a.name b.name

-- a dataset as its place tells it
abbrev told : List ℕ × Value → List ℕ × Option (List ℕ × Value)
told dataset = (dataset.0, Some dataset)

-- a place more
placed : (history : List Entry) (places : List (Key × ℕ)) (datasets : List (List ℕ × Value)) (key : Key) (place : ℕ) (value : Value) → ArePlaces history places datasets → set_at history place ≡ Some (key.name, value) → ArePlaces history (insert_entry same_key places key place) (with_dataset datasets key.name value)
placed history [] [] key place value are is = ap (λ (set : Option (List ℕ × Value)). (key.name, set) ∷ []) is
placed history [] (d ∷ datasets) key place value are is = absurd (cc)
placed history (p ∷ places) [] key place value are is = absurd (cc)
placed history (p ∷ places) (d ∷ datasets) key place value are is =
    let first : at_place history p ≡ told d = cc in
    let rest : ArePlaces history places datasets = cc in
    let name : p.0.name ≡ d.0 = ap (λ (x : List ℕ × Option (List ℕ × Value)). x.0) first in
    by (bytes_eq key.name d.0) refl name first rest (placed history places datasets key place value rest is)
  where
    by : (b : Bool) → bytes_eq key.name d.0 ≡ b → p.0.name ≡ d.0 → at_place history p ≡ told d → ArePlaces history places datasets → ArePlaces history (insert_entry same_key places key place) (with_dataset datasets key.name value)
        → ArePlaces history (insert_entry same_key (p ∷ places) key place) (with_dataset (d ∷ datasets) key.name value)
    by true same name first rest more =
        let equal : key.name ≡ d.0 = (bytes_eq-Decides key.name d.0).0 same in
        let there : same_key key p.0 ≡ true = ap (bytes_eq key.name) name ∙ same in
        let here : at_place history (p.0, place) ≡ told (d.0, value) = ap (λ (n : List ℕ). (n, set_at history place)) name ∙ ap (λ (set : Option (List ℕ × Value)). (d.0, set)) (is ∙ ap (λ (n : List ℕ). Some (n, value)) equal) in
        rw (there, same) (ap (λ (x : List ℕ × Option (List ℕ × Value)). x ∷ map (at_place history) places) here ∙ ap (λ (xs : List (List ℕ × Option (List ℕ × Value))). told (d.0, value) ∷ xs) rest)
    by false other name first rest more =
        let there : same_key key p.0 ≡ false = ap (bytes_eq key.name) name ∙ other in
        rw (there, other) (ap (λ (x : List ℕ × Option (List ℕ × Value)). x ∷ map (at_place history) (insert_entry same_key places key place)) first ∙ ap (λ (xs : List (List ℕ × Option (List ℕ × Value))). told d ∷ xs) more)

-- one entry more
after-more : (history : List Entry) (place : ℕ) → place < length history → datasets_of (take (place + 1) history) ≡ then_set (datasets_of (take place history)) (set_at history place)
after-more [] place below = absurd (omega (arith, below))
after-more (e ∷ history) place below =
    let entry : Entry = get_or (e ∷ history) place e in
    ap datasets_of (take_more (e ∷ history) place e below) ∙ fold-append _ _ (take place (e ∷ history)) (entry ∷ [])
    ∙ sym (ap (λ (found : Option Entry). then_set (datasets_of (take place (e ∷ history))) (option_and_then (λ (x : Entry). dataset_in x.act) found)) (slice_get-get_or (e ∷ history) place e below))

-- an entry that sets a dataset
pub places-more : (history : List Entry) (places new : List (Key × ℕ)) (place : ℕ) (key : Key) (value : Value) → place < length history → Some (key.name, value) ≡ set_at history place → new ≡ insert_entry same_key places key place
    → ArePlaces history places (datasets_of (take place history)) → ArePlaces history new (datasets_of (take (place + 1) history))
places-more history places new place key value below sets is are =
    let grown : datasets_of (take (place + 1) history) ≡ with_dataset (datasets_of (take place history)) key.name value =
    after-more history place below ∙ ap (then_set (datasets_of (take place history))) (sym sets) in
    rw (is, grown) (placed history places (datasets_of (take place history)) key place value are (sym sets))

-- any other
pub places-same : (history : List Entry) (places : List (Key × ℕ)) (place : ℕ) → place < length history → None ≡ set_at history place
    → ArePlaces history places (datasets_of (take place history)) → ArePlaces history places (datasets_of (take (place + 1) history))
places-same history places place below none are =
    let same : datasets_of (take (place + 1) history) ≡ datasets_of (take place history) =
    after-more history place below ∙ ap (then_set (datasets_of (take place history))) (sym none) in
    rw same are

-- ---- a dataset and its place

-- what is known of a place: the entry there sets the dataset that stands there in the list
pub record IsTold (history : List Entry) (datasets : List (List ℕ × Value)) (position place : ℕ) : Type 0 where
  pub dataset : List ℕ × Value
  pub at : slice_get datasets position ≡ Some dataset
  pub set : set_at history place ≡ Some dataset

pub told-at : (history : List Entry) (places : List (Key × ℕ)) (datasets : List (List ℕ × Value)) (position : ℕ) (kept : Key × ℕ) → ArePlaces history places datasets → slice_get places position ≡ Some kept → IsTold history datasets position kept.1
told-at history [] datasets position kept are at = absurd (cc)
told-at history (p ∷ places) [] position kept are at = absurd (cc)
told-at history (p ∷ places) (d ∷ datasets) zero kept are at =
    let same : p ≡ kept = cc in
    let first : at_place history p ≡ told d = cc in
    record { dataset = d; at = refl; set = ap (λ (x : Key × ℕ). set_at history x.1) (sym same) ∙ ap (λ (x : List ℕ × Option (List ℕ × Value)). x.1) first }
told-at history (p ∷ places) (d ∷ datasets) (suc position) kept are at =
    let rest : ArePlaces history places datasets = cc in
    let more = told-at history places datasets position kept rest at in
    record { dataset = more.dataset; at = more.at; set = more.set }

-- ---- what is read at a place

pub some-mapped : {X Y : Type 0} (f : X → Y) (found : Option X) (y : Y) → option_map f found ≡ Some y → IsSome found
some-mapped f None y is = absurd (cc)
some-mapped f (Some x) y is = refl

pub same-found : {Y : Type 0} (found : Option Y) (x y : Y) → Some x ≡ found → found ≡ Some y → x ≡ y
same-found found x y first second = same_Some x y (first ∙ second)
