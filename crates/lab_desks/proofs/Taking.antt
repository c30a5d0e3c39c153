-- The last of each row, taken one after another.
use Rattle.std.proofs.Common.{◌≡◌, ℕ, ◌+◌, ◌<◌, ◌≤◌, List, [], ◌∷◌, ◌++◌, length, take, get_or, sym, subst, ◌∙◌, arith}
use Rattle.std.specs.Prelude.{vec_capacity}
use Rattle.std.proofs.Math.ListN.{set}
use Rattle.std.proofs.lemmas.List.{take_more, take_more_set, get_or-set_other}
use Rattle.lab_desks.specs.Columns.{Row, TakesLast}

module _ {X : Type 0} where
  takes-push : (os ns : List (Row X)) (xs : List X) (o n : Row X) (x : X) → TakesLast os ns xs → o.items ≡ n.items ++ x ∷ [] → vec_capacity n ≡ vec_capacity o → TakesLast (os ++ o ∷ []) (ns ++ n ∷ []) (xs ++ x ∷ [])
  takes-push [] [] [] o n x h is room = (is, room, tt)
  takes-push (p ∷ os) (q ∷ ns) (y ∷ xs) o n x h is room = (h.0, h.1, takes-push os ns xs o n x h.2 is room)
  takes-push os ns xs o n x h is room = absurd h

  -- those before this place are taken, and the others are as they were
  pub record IsTaken (first rows : List (Row X)) (i : ℕ) (xs : List X) : Type 0 where
    pub done : TakesLast (take i first) (take i rows) xs
    pub rest : (k : ℕ) (d : Row X) → i ≤ k → get_or rows k d ≡ get_or first k d

  pub taken-more : (first rows : List (Row X)) (i : ℕ) (xs now : List X) (d n : Row X) (x : X) → i < length rows → length rows ≡ length first
      → IsTaken first rows i xs → (get_or rows i d).items ≡ n.items ++ x ∷ [] → vec_capacity n ≡ vec_capacity (get_or rows i d) → now ≡ xs ++ x ∷ []
      → IsTaken first (set rows i n) (i + 1) now
  taken-more first rows i xs now d n x here same t is room pushed =
      let o : Row X = get_or first i d in
      let was : get_or rows i d ≡ o = t.rest i d (omega arith) in
      record {
        done =
            subst (λ (l : List X). TakesLast (take (i + 1) first) (take (i + 1) (set rows i n)) l) (sym pushed)
            (subst (λ (os : List (Row X)). TakesLast os (take (i + 1) (set rows i n)) (xs ++ x ∷ [])) (sym (take_more first i d (omega arith)))
            (subst (λ (ns : List (Row X)). TakesLast (take i first ++ o ∷ []) ns (xs ++ x ∷ [])) (sym (take_more_set rows i n here))
            (takes-push (take i first) (take i rows) xs o n x t.done
            (subst (λ (v : Row X). v.items ≡ n.items ++ x ∷ []) was is)
            (subst (λ (v : Row X). vec_capacity n ≡ vec_capacity v) was room))));
        rest = λ k e above. get_or-set_other rows i k n e (λ at. absurd (omega (arith, at, above))) ∙ t.rest k e (omega arith);
      }
