-- What the last of each row are, where the rows are the fronts of others.
use Rattle.std.proofs.Common.{◌≡◌, ℕ, zero, suc, ◌<◌, ◌≤◌, List, [], ◌∷◌, ◌++◌, length, map, take, drop, get_or, refl, sym, ap, subst, ◌∙◌, arith, take_all}
use Rattle.std.specs.Prelude.{Option, Some, slice_get}
use Rattle.std.specs.List.{AllByRecursion, cons_option}
use Rattle.std.proofs.lemmas.List.{same_from_push}
use Rattle.lab_desks.specs.Columns.{Row, TakesLast, column, fronts, items_of}

module _ {X : Type 0} where
  -- the last of a row up to a place
  last-of : (row : List X) (p : ℕ) → p < length row → (x : X) × (slice_get row p ≡ Some x) × (take (suc p) row ≡ take p row ++ x ∷ [])
  last-of [] p low = absurd (omega arith)
  last-of (x ∷ row) zero low = (x, refl, refl)
  last-of (x ∷ row) (suc p) low =
      let l = last-of row p (omega arith) in
      (l.0, l.1, ap (λ (xs : List X). x ∷ xs) l.2)

  pub takes-fronts : (rows : List (List X)) (p : ℕ) (olds news : List (Row X)) (xs : List X) → TakesLast olds news xs
      → map items_of olds ≡ fronts (suc p) rows → AllByRecursion (λ row. p < length row) rows
      → (map items_of news ≡ fronts p rows) × (xs ≡ column p rows)
  takes-fronts [] p [] [] [] h is long = (refl, refl)
  takes-fronts (r ∷ rows) p [] [] [] h is long = absurd (cc)
  takes-fronts [] p (o ∷ olds) (n ∷ news) (x ∷ xs) h is long = absurd (cc)
  takes-fronts (r ∷ rows) p (o ∷ olds) (n ∷ news) (x ∷ xs) h is long =
      let last = last-of r p long.0 in
      let here : o.items ≡ take (suc p) r = ap (λ (l : List (List X)). get_or l 0 []) is in
      let both = same_from_push n.items (take p r) x last.0 (sym h.0 ∙ here ∙ last.2) in
      let others = takes-fronts rows p olds news xs h.2 (ap (λ (l : List (List X)). drop 1 l) is) long.1 in (
        (λ i. both.0 i ∷ others.0 i),
        (λ i. both.1 i ∷ others.1 i) ∙ sym (ap (λ (o : Option X). cons_option o (column p rows)) last.1),
      )
  takes-fronts rows p olds news xs h is long = absurd h

  pub fronts-whole : (rows : List (List X)) (n : ℕ) → AllByRecursion (λ row. length row ≡ n) rows → fronts n rows ≡ rows
  fronts-whole [] n h = refl
  fronts-whole (r ∷ rows) n h = (λ i. take_all n r (omega (arith, h.0)) i ∷ fronts-whole rows n h.1 i)

  some-left : (row : List X) (n : ℕ) → 0 < n → n ≤ length row → 0 < length (take n row)
  some-left [] n some long = absurd (omega arith)
  some-left (x ∷ row) zero some long = absurd (omega arith)
  some-left (x ∷ row) (suc n) some long = omega arith

  -- fronts of at least one are not empty
  pub fronts-some : (rows : List (List X)) (n : ℕ) (left : List (Row X)) → 0 < n → AllByRecursion (λ row. n ≤ length row) rows
      → map items_of left ≡ fronts n rows → AllByRecursion (λ v. 0 < length v.items) left
  fronts-some rows n [] some long is = tt
  fronts-some [] n (v ∷ left) some long is = absurd (cc)
  fronts-some (r ∷ rows) n (v ∷ left) some long is = (
    subst (λ (xs : List X). 0 < length xs) (sym (ap (λ (l : List (List X)). get_or l 0 []) is)) (some-left r n some long.0),
    fronts-some rows n left some long.1 (ap (λ (l : List (List X)). drop 1 l) is),
  )
