-- The numbers of one chair, counted one after another.
use Rattle.std.proofs.Common.{◌≡◌, ℕ, zero, suc, ◌+◌, ◌<◌, List, [], ◌∷◌, ◌++◌, length, take, get_or, Bool, true, false, refl, ap, ◌∙◌, ⊎_elim, arith}
use Rattle.std.specs.Prelude.{◌==◌}
use Rattle.std.specs.List.{range_with_len}
use Rattle.std.proofs.lemmas.Bool.Decides.{eqb_tells}
use Rattle.std.proofs.lemmas.List.{append-nil, take_more}
use Rattle.desk_rule.specs.Histories.{act_if, acts_of}
use Rattle.desk_rule.proofs.Prefixes.{acts_of-append}

-- one number more, behind those from another on
range_more : (a n last : ℕ) → a + n ≡ last → range_with_len a n ++ last ∷ [] ≡ range_with_len a (n + 1)
range_more a zero last is =
    let same : last ≡ a = omega arith in
    rw same refl
range_more a (suc n) last is =
    let count : suc n + 1 ≡ suc (n + 1) = omega arith in
    rw count (ap (λ (ns : List ℕ). a ∷ ns) (range_more (a + 1) n last (omega arith)))

-- the acts of a chair among the entries up to one
module _ (k i : ℕ) (history : List (ℕ × ℕ)) (d : ℕ × ℕ) (within : i < length history) where
  abbrev entry : ℕ × ℕ
  entry = get_or history i d

  one_more : (own : Bool) → (entry.0 == k) ≡ own → acts_of k (take (i + 1) history) ≡ acts_of k (take i history) ++ act_if own entry.1 []
  one_more own is =
      ap (acts_of k) (take_more history i d within)
      ∙ acts_of-append k (take i history) (entry ∷ [])
      ∙ ap (λ b. acts_of k (take i history) ++ act_if b entry.1 []) is

  is_own : entry.0 ≡ k → (entry.0 == k) ≡ true
  is_own own = ⊎_elim (λ same. same.0) (λ other. absurd (other.1 own)) (eqb_tells entry.0 k)

  is_other : (entry.0 ≡ k → ⊥) → (entry.0 == k) ≡ false
  is_other differs = ⊎_elim (λ same. absurd (differs same.1)) (λ other. other.0) (eqb_tells entry.0 k)

  -- a number that the chair puts next
  pub own_counted : (n : ℕ) → entry.0 ≡ k → entry.1 ≡ n → acts_of k (take i history) ≡ range_with_len 0 n → acts_of k (take (i + 1) history) ≡ range_with_len 0 (n + 1)
  own_counted n own same counted =
      one_more true (is_own own)
      ∙ ap (λ m. acts_of k (take i history) ++ m ∷ []) same
      ∙ ap (λ (ns : List ℕ). ns ++ n ∷ []) counted
      ∙ range_more 0 n n (omega arith)

  -- a number that another chair puts
  pub other_counted : (n : ℕ) → (entry.0 ≡ k → ⊥) → acts_of k (take i history) ≡ range_with_len 0 n → acts_of k (take (i + 1) history) ≡ range_with_len 0 n
  other_counted n other counted =
      one_more false (is_other other)
      ∙ append-nil (acts_of k (take i history))
      ∙ counted
