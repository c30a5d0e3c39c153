-- Parts of lists.
use Rattle.std.proofs.Common.{◌≡◌, ℕ, zero, suc, ◌+◌, ◌-◌, ◌<◌, ◌≤◌, List, [], ◌∷◌, ◌++◌, length, map, take, drop, reverse, replicate, get_or, set, refl, sym, ◌∙◌, ap, arith, append_assoc, add_assoc, add-zero}
use Rattle.std.specs.Prelude.{slice_get, Some}
use Rattle.std.proofs.lemmas.List.{drop-append-le, drop-take, drop-drop, length-append, length-take-le, length-replicate, take_at, drop_at, take_all, take-take, take_more, get_or-drop, map_push, reverse-append}
use Rattle.std.proofs.Math.Seq.{take-append-add, drop-append-add}
use Rattle.std.proofs.lemmas.Option.{get_or_from_slice_get}
use lib.Seq.{paste}

-- a part overwritten, seen from within the list
pub filled_part : {X : Type 0} → (free first count : ℕ) (xs : List X) (y : X) → free + first + count ≤ length xs
    → drop free (paste xs (free + first) (replicate count y) count)
    ≡ take first (drop free xs) ++ replicate count y ++ drop (first + count) (drop free xs)
filled_part free first count xs y fits =
    let front : free ≤ length (take (free + first) xs) = omega (arith, length-take-le (free + first) xs (omega arith)) in
    let all : take count (replicate count y) ≡ replicate count y = take_all count (replicate count y) (omega (arith, length-replicate count y)) in
    let rest : drop (first + count) (drop free xs) ≡ drop (free + first + count) xs = drop-drop (first + count) free xs ∙ ap (λ n. drop n xs) (sym (add_assoc free first count)) in
    simp (all, rest, append_assoc, drop-append-le free (take (free + first) xs) (replicate count y ++ drop (free + first + count) xs) front, drop-take free first xs)

-- one more of a list's items moved, one after the other
pub moved_over : {X : Type 0} → (xs onto : List X) (i : ℕ) (x : X) → i < length xs → slice_get (drop i xs) 0 ≡ Some x
    → x ∷ (reverse (take i xs) ++ onto) ≡ reverse (take (i + 1) xs) ++ onto
moved_over xs onto i x within there =
    let item : get_or xs i x ≡ x = ap (λ n. get_or xs n x) (sym (add-zero i)) ∙ sym (get_or-drop i xs 0 x) ∙ get_or_from_slice_get (drop i xs) 0 x x there in
    let front : take (i + 1) xs ≡ take i xs ++ x ∷ [] = take_more xs i x within ∙ ap (λ v. take i xs ++ v ∷ []) item in
    rw (front, reverse-append)

take_nil : {X : Type 0} → (n : ℕ) → take {A = X} n [] ≡ []
take_nil zero = refl
take_nil (suc n) = refl

-- a front of a list with a change in it
pub take_changed : {X : Type 0} → (n i : ℕ) (xs : List X) (y : X) → i < n → take n (set xs i y) ≡ set (take n xs) i y
take_changed n i [] y within = rw (take_nil n)
take_changed zero i (x ∷ xs) y within = absurd (omega arith)
take_changed (suc n) zero (x ∷ xs) y within = refl
take_changed (suc n) (suc i) (x ∷ xs) y within = ap (λ l. x ∷ l) (take_changed n i xs y (omega arith))

-- a part of a front
pub part_of_front : {X : Type 0} → (n first count : ℕ) (xs : List X) → first + count ≤ n
    → take count (drop first (take n xs)) ≡ take count (drop first xs)
part_of_front n first count xs within =
    sym (drop-take first count (take n xs)) ∙ ap (drop first) (take-take (first + count) n xs within) ∙ drop-take first count xs

-- a part of a front overwritten
pub front_filled : {X : Type 0} → (n first count : ℕ) (xs : List X) (y : X) → first + count ≤ n → n ≤ length xs
    → take n (take first xs ++ replicate count y ++ drop (first + count) xs)
    ≡ take first (take n xs) ++ replicate count y ++ drop (first + count) (take n xs)
front_filled n first count xs y within fits =
    let left : ℕ = n - (first + count) in
    let whole : n ≡ first + count + left = omega arith in
    let front : length (take first xs ++ replicate count y) ≡ first + count =
    length-append (take first xs) (replicate count y) ∙ omega (arith, length-take-le first xs (omega arith), length-replicate count y)
    in
    let same : take first (take n xs) ≡ take first xs = take-take first n xs (omega arith) in
    let rest : drop (first + count) (take n xs) ≡ take left (drop (first + count) xs) =
    ap (λ k. drop (first + count) (take k xs)) whole ∙ drop-take (first + count) left xs
    in
    let begun : take n (take first xs ++ replicate count y ++ drop (first + count) xs) ≡ take first xs ++ replicate count y ++ take left (drop (first + count) xs) =
    ap (λ k. take k (take first xs ++ replicate count y ++ drop (first + count) xs)) (whole ∙ ap (λ k. k + left) (sym front))
    ∙ take-append-add (take first xs ++ replicate count y) (drop (first + count) xs) left
    in
    begun ∙ ap (λ l. take first xs ++ replicate count y ++ l) (sym rest) ∙ ap (λ l. l ++ replicate count y ++ drop (first + count) (take n xs)) (sym same)

-- what is behind that front stays
pub behind_filled : {X : Type 0} → (n first count : ℕ) (xs : List X) (y : X) → first + count ≤ n → n ≤ length xs
    → drop n (take first xs ++ replicate count y ++ drop (first + count) xs) ≡ drop n xs
behind_filled n first count xs y within fits =
    let left : ℕ = n - (first + count) in
    let whole : n ≡ first + count + left = omega arith in
    let front : length (take first xs ++ replicate count y) ≡ first + count =
    length-append (take first xs) (replicate count y) ∙ omega (arith, length-take-le first xs (omega arith), length-replicate count y)
    in
    ap (λ k. drop k (take first xs ++ replicate count y ++ drop (first + count) xs)) (whole ∙ ap (λ k. k + left) (sym front))
    ∙ drop-append-add (take first xs ++ replicate count y) (drop (first + count) xs) left
    ∙ drop-drop left (first + count) xs
    ∙ ap (λ k. drop k xs) (sym whole)

-- a list's front with others before it
pub fresh_front : {X : Type 0} → (n : ℕ) (xs rest : List X) (y : X) → length xs ≤ n
    → take n (xs ++ (replicate (n - length xs) y ++ rest)) ≡ xs ++ replicate (n - length xs) y
fresh_front n xs rest y short =
    let full : length (xs ++ replicate (n - length xs) y) ≡ n =
    length-append xs (replicate (n - length xs) y) ∙ omega (arith, length-replicate (n - length xs) y)
    in
    ap (take n) (sym (append_assoc xs (replicate (n - length xs) y) rest)) ∙ take_at (xs ++ replicate (n - length xs) y) rest n full

-- and what is behind it
pub fresh_behind : {X : Type 0} → (n : ℕ) (xs rest : List X) (y : X) → length xs ≤ n
    → drop n (xs ++ (replicate (n - length xs) y ++ rest)) ≡ rest
fresh_behind n xs rest y short =
    let full : length (xs ++ replicate (n - length xs) y) ≡ n =
    length-append xs (replicate (n - length xs) y) ∙ omega (arith, length-replicate (n - length xs) y)
    in
    ap (drop n) (sym (append_assoc xs (replicate (n - length xs) y) rest)) ∙ drop_at (xs ++ replicate (n - length xs) y) rest n full

-- a front without its first items
pub shorter_front : {X : Type 0} → (n m : ℕ) (xs : List X) → m ≤ n → take (n - m) (drop m xs) ≡ drop m (take n xs)
shorter_front n m xs short =
    sym (drop-take m (n - m) xs) ∙ ap (λ k. drop m (take k xs)) (omega arith)

-- behind it
pub behind_shorter : {X : Type 0} → (n m : ℕ) (xs : List X) → m ≤ n → drop (n - m) (drop m xs) ≡ drop n xs
behind_shorter n m xs short = drop-drop (n - m) m xs ∙ ap (λ k. drop k xs) (omega arith)

-- one more of a list's items put before others, the last one first
pub put_more : {A X : Type 0} (v : A → X) (ys : List A) (y : A) (onto : List X)
    → v y ∷ (reverse (map v ys) ++ onto) ≡ reverse (map v (ys ++ y ∷ [])) ++ onto
put_more v ys y onto = rw (map_push v ys y, reverse-append)
