-- What holds of each item of a list, item by item.
use Rattle.std.proofs.Common.{◌≡◌, ◌↔◌, ℕ, ◌+◌, List, ◌∷◌, drop, sym, subst}
use Rattle.std.specs.List.{AllByRecursion}

module _ {X : Type 0} (P : X → Type 0) (xs : List X) (i : ℕ) (x : X) where
  -- it holds of the items from one on where it holds of that one and of those behind it
  pub each-next : drop i xs ≡ x ∷ drop (i + 1) xs → (AllByRecursion P (drop i xs) ↔ AllByRecursion P xs) → P x → AllByRecursion P (drop (i + 1) xs) ↔ AllByRecursion P xs
  each-next is same holds = (
    λ rest. same.0 (subst (AllByRecursion P) (sym is) (holds, rest)),
    λ all. (subst (AllByRecursion P) is (same.1 all)).1,
  )

  -- it doesn't where it doesn't hold of that one
  pub each-stops : drop i xs ≡ x ∷ drop (i + 1) xs → (AllByRecursion P (drop i xs) ↔ AllByRecursion P xs) → (P x → ⊥) → AllByRecursion P xs → ⊥
  each-stops is same fails all = fails (subst (AllByRecursion P) is (same.1 all)).0
