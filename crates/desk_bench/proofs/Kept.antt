-- Chairs that threads have used, and are the same.
use Rattle.std.proofs.Common.{◌≡◌, ℕ, suc, ◌<◌, List, [], ◌∷◌, length, get_or, ◌∙◌, ⊎_elim, inl, inr, arith}
use Rattle.desk.specs.Seated.{Seated}
use Rattle.desk.specs.Closing.{HasNumber}
use Rattle.desk_bench.specs.Rounds.{IsSame}

module _ {A F : Type 0} where
  -- a number that one of the chairs has, one of them still has
  pub number_kept : (cs ds : List (Seated A F)) (k : ℕ) → length ds ≡ length cs → ((i : ℕ) (c : Seated A F) → i < length cs → IsSame (get_or cs i c) (get_or ds i c)) → HasNumber cs k → HasNumber ds k
  number_kept [] ds k len same has = absurd has
  number_kept (c ∷ cs) [] k len same has = absurd (omega arith)
  number_kept (c ∷ cs) (d ∷ ds) k len same has = ⊎_elim
      (λ (e : c.number ≡ k). inl ((same 0 c (omega arith)).1 ∙ e))
      (λ t. inr (number_kept cs ds k (omega arith) (λ i e low. same (suc i) e (omega arith)) t)) has
