-- The entries of a history, by the chairs that they are of.
use Rattle.std.proofs.Common.{◌≡◌, ℕ, ◌<◌, ◌≤◌, List, [], ◌∷◌, ◌++◌, Bool, true, false, refl, sym, ap, subst, ◌∙◌, ⊎_elim, eq-eqb}
use Rattle.std.specs.Prelude.{◌==◌}
use mathlib.Core.List.{IsPrefix}
use Rattle.std.proofs.lemmas.Bool.{cases_lt}
use Rattle.std.proofs.lemmas.List.{append-nil, append_cancel_left}
use Rattle.desk_rule.specs.Histories.{Each, act_if, acts_of}
use Rattle.desk_rule.proofs.Prefixes.{acts_of-append}

module _ {A : Type 0} where
  none-if : (b : Bool) (a : A) (acts : List A) → act_if b a acts ≡ [] → acts ≡ []
  none-if true a acts is = absurd (cc)
  none-if false a acts is = is

  each-if : (P : A → Type 0) (b : Bool) (a : A) (acts : List A) → Each P (act_if b a acts) → Each P acts
  each-if P true a acts h = h.1
  each-if P false a acts h = h

  -- the first entry is its chair's
  first-own : (e : ℕ × A) (es : List (ℕ × A)) → acts_of e.0 (e ∷ es) ≡ e.1 ∷ acts_of e.0 es
  first-own e es = ap (λ (b : Bool). act_if b e.1 (acts_of e.0 es)) (eq-eqb e.0 e.0 refl)

  -- where no chair from a number on has acts, all entries are of those below
  pub below-each : (n : ℕ) (history : List (ℕ × A)) → ((k : ℕ) → n ≤ k → acts_of k history ≡ []) → Each (λ e. e.0 < n) history
  below-each n [] others = tt
  below-each n (e ∷ es) others = (
    ⊎_elim (λ below. below) (λ above. absurd (clash (acts_of e.0 es) (sym (first-own e es) ∙ others e.0 above))) (cases_lt e.0 n),
    below-each n es (λ k above. none-if (e.0 == k) e.1 (acts_of k es) (others k above)),
  )
    where
      clash : (acts : List A) → e.1 ∷ acts ≡ [] → ⊥
      clash acts is = cc

  -- what holds of the acts of each chair holds of all acts
  pub each-act : (P : A → Type 0) (n : ℕ) (history : List (ℕ × A)) → Each (λ e. e.0 < n) history
      → ((k : ℕ) → k < n → Each P (acts_of k history)) → Each (λ e. P e.1) history
  each-act P n [] below own = tt
  each-act P n (e ∷ es) below own = (
    (subst (Each P) (first-own e es) (own e.0 below.0)).0,
    each-act P n es below.1 (λ k low. each-if P (e.0 == k) e.1 (acts_of k es) (own k low)),
  )

  -- behind what has just the acts of a chair there are none of that chair
  pub none-behind : (k : ℕ) (seen history : List (ℕ × A)) (own : List A) (p : IsPrefix seen history) → acts_of k seen ≡ own → acts_of k history ≡ own → acts_of k p.0 ≡ []
  none-behind k seen history own p was is =
      append_cancel_left own (acts_of k p.0) []
      (ap (λ (l : List A). l ++ acts_of k p.0) (sym was) ∙ sym (acts_of-append k seen p.0) ∙ ap (acts_of k) p.1 ∙ is ∙ sym (append-nil own))
