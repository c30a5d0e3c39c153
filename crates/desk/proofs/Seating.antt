-- The chairs of a new desk.
use Rattle.std.proofs.Common.{◌≡◌, ℕ, zero, suc, ◌+◌, ◌-◌, ◌<◌, ◌≤◌, List, [], ◌∷◌, ◌++◌, length, drop, take, false, refl, sym, ap, ◌∙◌, subst, arith, Some, inl, inr, slice_get}
use Rattle.std.proofs.lemmas.List.{take_at}
use Rattle.atomic_table.specs.Seated.{TableId}
use Rattle.desk_rule.specs.declared.view.View.{View}
use Rattle.desk_rule.specs.Records.{new_record, view}
use Rattle.desk_rule.specs.Steps as kinds
use Rattle.desk_rule.proofs.Prefixes.{drop_front}
use Rattle.desk_rule.specs.Histories.{Each}
use Rattle.desk.specs.Seated.{DeskId, Seated, new_chair, new_chairs}
use Rattle.desk.specs.Chairs.{seated_by}
use Rattle.desk.specs.Closing.{HasNumber}

module _ {A F : Type 0} where
  -- the first chair's view, once so many chairs were made
  abbrev pub first_at : ℕ → F → View A F
  first_at made f = view (new_record 0 made ∷ []) false (Some f)

pub length-new_chairs : (A : Type 0) {F : Type 0} (id : DeskId F) (k n : ℕ) → length (new_chairs {A = A} id k n) ≡ n
length-new_chairs A id k zero = refl
length-new_chairs A id k (suc n) = ap suc (length-new_chairs A id (suc k) n)

-- new chairs have the numbers from k on
pub has_number-new_chairs : (A : Type 0) {F : Type 0} (id : DeskId F) (k n j : ℕ) → j < n → HasNumber (new_chairs {A = A} id k n) (k + j)
has_number-new_chairs A id k zero j low = absurd (omega arith)
has_number-new_chairs A id k (suc n) zero low = inl (omega arith)
has_number-new_chairs A id k (suc n) (suc j) low =
    let next : suc k + j ≡ k + suc j = omega arith in
    inr (subst (HasNumber (new_chairs {A = A} id (suc k) n)) next (has_number-new_chairs A id (suc k) n j (omega arith)))

-- the chair at a place
pub new_chairs-get : (A : Type 0) {F : Type 0} (id : DeskId F) (k n j : ℕ) → j < n → slice_get (new_chairs {A = A} id k n) j ≡ Some (new_chair id (k + j))
new_chairs-get A id k zero j low = absurd (omega arith)
new_chairs-get A id k (suc n) zero low = ap (λ (i : ℕ). Some (new_chair {A = A} id i)) (omega arith)
new_chairs-get A id k (suc n) (suc j) low = new_chairs-get A id (suc k) n j (omega arith) ∙ ap (λ (i : ℕ). Some (new_chair {A = A} id i)) (omega arith)

-- and are of the desk, holding nothing
pub each-new_chairs : (A : Type 0) {F : Type 0} (id : DeskId F) (k n : ℕ) → Each (λ c. (c.desk ≡ id) × (c.holds ≡ false)) (new_chairs {A = A} id k n)
each-new_chairs A id k zero = tt
each-new_chairs A id k (suc n) = ((refl, refl), each-new_chairs A id (suc k) n)

pub new_chairs-snoc : (A : Type 0) {F : Type 0} (id : DeskId F) (k n : ℕ) → new_chairs {A = A} id k n ++ new_chair id (k + n) ∷ [] ≡ new_chairs id k (suc n)
new_chairs-snoc A id k zero = ap (λ (j : ℕ). new_chair {A = A} id j ∷ []) (omega arith)
new_chairs-snoc A {F} id k (suc n) = ap (λ (cs : List (Seated A F)). new_chair id k ∷ cs) (ap (λ (j : ℕ). new_chairs id (suc k) n ++ new_chair id j ∷ []) (omega arith) ∙ new_chairs-snoc A id (suc k) n)

-- the desk of this table, with this fixed part
abbrev pub desk_at : {F : Type 0} → TableId → F → DeskId F
desk_at table f = record { table = table; fixed = Some f }

module _ {A F : Type 0} (table : TableId) (f : F) where
  -- one chair more in the room
  pub one_more : (made : ℕ) (items now : List (Seated A F)) (t : TableId) (found : List (List (ℕ × A))) (v : View A F) → 1 ≤ made → items ≡ new_chairs (desk_at table f) 1 (made - 1)
      → t ≡ table → found ≡ [] → v ≡ kinds.new_chair (first_at made f) → now ≡ items ++ seated_by t made found v ∷ [] → now ≡ new_chairs (desk_at table f) 1 (made + 1 - 1)
  one_more made items now t found v some were same none new is =
      let number : made ≡ 1 + (made - 1) = omega arith in
      let chair : seated_by t made found v ≡ new_chair (desk_at table f) (1 + (made - 1)) = (λ i. seated_by (same i) made (none i) (new i)) ∙ ap (λ (j : ℕ). new_chair {A = A} (desk_at table f) j) number in
      let next : suc (made - 1) ≡ made + 1 - 1 = omega arith in
      is ∙ ((λ i. were i ++ chair i ∷ []) ∙ (new_chairs-snoc A (desk_at table f) 1 (made - 1) ∙ ap (λ (n : ℕ). new_chairs {A = A} (desk_at table f) 1 n) next))

  -- the first chair, put in front
  pub first_in_front : (made chairs : ℕ) (items : List (Seated A F)) (t : TableId) (found : List (List (ℕ × A))) (v : View A F) → 1 ≤ made → made ≡ chairs
      → items ≡ new_chairs (desk_at table f) 1 (made - 1) → t ≡ table → found ≡ [] → v ≡ first_at made f → seated_by t 0 found v ∷ items ≡ new_chairs (desk_at table f) 0 chairs
  first_in_front made chairs items t found v some all were same none new =
      let next : suc (made - 1) ≡ chairs = omega arith in
      (λ i. seated_by (same i) 0 (none i) (new i) ∷ were i) ∙ ap (λ (n : ℕ). new_chairs {A = A} (desk_at table f) 0 n) next

module _ {X : Type 0} where
  length_snoc : (xs : List X) (x : X) → length (xs ++ x ∷ []) ≡ suc (length xs)
  length_snoc [] x = refl
  length_snoc (y ∷ ys) x = ap suc (length_snoc ys x)

  -- a list whose last element was turned to its front, as a borrow gives it back
  pub turned_round : (xs : List X) (x : X) (l r : List X) (n : ℕ) → l ≡ xs ++ x ∷ [] → r ≡ drop (length l - 1) l ++ take (length l - 1) l → n ≡ length l → take n (r ++ drop (length r) l) ≡ x ∷ xs
  turned_round xs x l r n is turned len =
      let count : length l ≡ suc (length xs) = ap length is ∙ length_snoc xs x in
      let less : length l - 1 ≡ length xs = omega arith in
      let front : r ≡ x ∷ xs = turned ∙ ((λ i. drop (less i) (is i) ++ take (less i) (is i)) ∙ (λ i. drop_front xs (x ∷ []) i ++ take_at xs (x ∷ []) (length xs) refl i)) in
      let same : n ≡ length r = len ∙ (count ∙ sym (ap length front)) in
      ap (λ (k : ℕ). take k (r ++ drop (length r) l)) same ∙ (take_at r (drop (length r) l) (length r) refl ∙ front)
