-- Where a pair goes among others.
use Rattle.std.proofs.Common.{◌≡◌, ◌<◌, ◌≤◌, ◌+◌, ℕ, suc, Bool, true, false, List, [], ◌∷◌, ◌++◌, take, drop, length, refl, ap, ◌∙◌, sym, add-one, drop-cons}
use Rattle.std.specs.Prelude.{Some}
use Rattle.std.specs.List.{slice_get}
use Rattle.std.proofs.lemmas.List.{drop_all}
use Rattle.std.proofs.lemmas.Option.{get_or_from_slice_get, slice_get_within}
use Rattle.rtio_types.specs.declared.event.Event.{Event}
use Rattle.sed_lanes.specs.Sorting.{inserted}
use Rattle.output_merge.proofs.Summing.{take-item}

pub drop-item : (items : List (ℕ × Event)) (i : ℕ) (p : ℕ × Event) → slice_get items i ≡ Some p → drop i items ≡ p ∷ drop (i + 1) items
drop-item items i p is =
    let lt : i < length items = slice_get_within items i p is in
    drop-cons items i p lt
    ∙ ap (λ (q : ℕ × Event). q ∷ drop (suc i) items) (get_or_from_slice_get items i p p is)
    ∙ ap (λ (n : ℕ). p ∷ drop n items) (sym (add-one i))

behind-one : (xs : List (ℕ × Event)) (y : ℕ × Event) (zs : List (ℕ × Event)) → (xs ++ y ∷ []) ++ zs ≡ xs ++ y ∷ zs
behind-one [] y zs = refl
behind-one (x ∷ xs) y zs = ap (λ (ps : List (ℕ × Event)). x ∷ ps) (behind-one xs y zs)

-- before the first that doesn't stand before it
pub place-stop : (before : ℕ × Event → ℕ × Event → Bool) (items : List (ℕ × Event)) (i : ℕ) (y x : ℕ × Event) → slice_get items i ≡ Some y → before y x ≡ false → take i items ++ x ∷ drop i items ≡ take i items ++ inserted before x (drop i items)
place-stop before items i y x is stops =
    let there : drop i items ≡ y ∷ drop (i + 1) items = drop-item items i y is in
    let put : inserted before x (y ∷ drop (i + 1) items) ≡ x ∷ y ∷ drop (i + 1) items = rw stops refl in
    ap (λ (ps : List (ℕ × Event)). take i items ++ ps)
    (ap (λ (ps : List (ℕ × Event)). x ∷ ps) there ∙ sym put ∙ ap (inserted before x) (sym there))

-- behind one that stands before it
pub place-more : (before : ℕ × Event → ℕ × Event → Bool) (items : List (ℕ × Event)) (i : ℕ) (y x : ℕ × Event) → slice_get items i ≡ Some y → before y x ≡ true → take (i + 1) items ++ inserted before x (drop (i + 1) items) ≡ take i items ++ inserted before x (drop i items)
place-more before items i y x is goes =
    let there : drop i items ≡ y ∷ drop (i + 1) items = drop-item items i y is in
    let put : inserted before x (y ∷ drop (i + 1) items) ≡ y ∷ inserted before x (drop (i + 1) items) = rw goes refl in
    ap (λ (ps : List (ℕ × Event)). ps ++ inserted before x (drop (i + 1) items)) (take-item items i y is)
    ∙ behind-one (take i items) y (inserted before x (drop (i + 1) items))
    ∙ ap (λ (ps : List (ℕ × Event)). take i items ++ ps) (sym put ∙ ap (inserted before x) (sym there))

-- behind all
pub place-end : (before : ℕ × Event → ℕ × Event → Bool) (items : List (ℕ × Event)) (i : ℕ) (x : ℕ × Event) → length items ≤ i → take i items ++ x ∷ drop i items ≡ take i items ++ inserted before x (drop i items)
place-end before items i x le =
    let none : drop i items ≡ [] = drop_all i items le in
    ap (λ (ps : List (ℕ × Event)). take i items ++ x ∷ ps) none ∙ ap (λ (ps : List (ℕ × Event)). take i items ++ inserted before x ps) (sym none)
