-- Steps of a loop over a list.
use Rattle.std.proofs.Common.{◌≡◌, ℕ, suc, ◌+◌, ◌<◌, List, ◌∷◌, length, drop, get_or, sym, ap, add-one, drop-cons}

-- the item at an index comes before the others from there on
pub drop_item : {A : Type 0} (xs : List A) (i : ℕ) (x : A) → i < length xs → x ≡ get_or xs i x → drop i xs ≡ x ∷ drop (i + 1) xs
drop_item xs i x within is = rw (add-one i, drop-cons xs i x within) (ap (λ y. y ∷ drop (suc i) xs) (sym is))
