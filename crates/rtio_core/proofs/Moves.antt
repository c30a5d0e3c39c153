-- Lists that are moved one element after another.
use Rattle.std.proofs.Common.{◌≡◌, ◌+◌, ◌<◌, ℕ, List, [], ◌∷◌, ◌++◌, map, take, length, ap, sym, ◌∙◌, append_assoc}
use Rattle.std.specs.Prelude.{Some, slice_get}
use Rattle.std.proofs.lemmas.List.{map_more}
use Rattle.std.proofs.lemmas.Option.{get_or_from_slice_get}

-- one element more stands behind the others
pub moved-more : {X Y : Type 0} (f : X → Y) (xs : List X) (i : ℕ) (x : X) (old now new : List Y) → i < length xs → slice_get xs i ≡ Some x → now ≡ old ++ map f (take i xs) → new ≡ now ++ f x ∷ [] → new ≡ old ++ map f (take (i + 1) xs)
moved-more f xs i x old now new lt there is more =
    more ∙ ap (λ ys. ys ++ f x ∷ []) is ∙ append_assoc old (map f (take i xs)) (f x ∷ [])
    ∙ ap (λ ys. old ++ ys) (ap (λ y. map f (take i xs) ++ f y ∷ []) (sym (get_or_from_slice_get xs i x x there)) ∙ sym (map_more f xs i x lt))
