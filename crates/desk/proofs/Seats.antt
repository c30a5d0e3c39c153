-- What a chair's fields come to, before and after a step.
use Rattle.std.proofs.Common.{◌≡◌, ℕ, List, [], ◌∷◌, ◌++◌, Bool, true, false, refl, sym, ap, ◌∙◌, subst, length, drop, Option, None}
use Rattle.atomic_table.specs.Seated.{TableId}
use Rattle.desk_rule.specs.declared.view.Record.{Record}
use Rattle.desk_rule.specs.declared.view.View.{View}
use Rattle.desk_rule.specs.Histories.{acts_of, entries_by, Grew}
use Rattle.desk_rule.specs.Records.{view}
use Rattle.desk_rule.specs.Steps.{first_own, first_seen, first_won, put}
use Rattle.desk_rule.specs.Views.{own_record, IsOwn}
use Rattle.desk_rule.proofs.Prefixes.{drop_front, acts_of-own}
use Rattle.desk.specs.Seated.{Puts}
use Rattle.desk.specs.Chairs.{Carries, HasFound, seated_by}

-- a seat without the pass has no slot, and one with it has the empty one
pub carried_none : {T : Type 0} (b : Bool) (slots : List (ℕ × Option T)) → b ≡ false → Carries b slots → slots ≡ []
carried_none b slots is h = subst (λ (p : Bool). Carries p slots) is h

pub carried_one : {T : Type 0} (b : Bool) (slots : List (ℕ × Option T)) → b ≡ true → Carries b slots → slots ≡ (0, None) ∷ []
carried_one b slots is h = subst (λ (p : Bool). Carries p slots) is h

module _ {A F : Type 0} where
  -- after a put the view is the chair's own record
  pub put_own : (k : ℕ) (v w : View A F) (log : List (ℕ × A)) → IsOwn k v → w ≡ view (put log v.records) false v.fixed → IsOwn k w
  put_own k v w log is after = subst (IsOwn k) (sym (after ∙ ap (λ (rs : List (Record A)). view (put log rs) false v.fixed) is)) refl

  -- and says what it said of its takings
  pub put_found : (k : ℕ) (v w : View A F) (log : List (ℕ × A)) (found : List (List (ℕ × A))) → IsOwn k v → w ≡ view (put log v.records) false v.fixed
      → HasFound (first_won v.records) found → HasFound (first_won w.records) found
  put_found k v w log found is after h =
      let P : Bool → Type 0 = λ b. HasFound b found in
      let here : first_won (put log v.records) ≡ first_won v.records = ap (λ (rs : List (Record A)). first_won (put log rs)) is in
      subst P (sym (ap (λ (u : View A F). first_won u.records) after ∙ here)) h

  pub put_seated : (before now : TableId) (k : ℕ) (found : List (List (ℕ × A))) (v w : View A F) (log : List (ℕ × A)) → IsOwn k v → Grew k (first_seen v.records) log → now ≡ before → w ≡ view (put log v.records) false v.fixed
      → Puts (seated_by before k found v) log (seated_by now k found w)
  put_seated before now k found v w log is grew same after =
      let acts : List A = grew.0 in
      let seen : List (ℕ × A) = first_seen v.records in
      let new : acts_of k (drop (length seen) log) ≡ acts = ap (λ (l : List (ℕ × A)). acts_of k (drop (length seen) l)) grew.1 ∙ (ap (acts_of k) (drop_front seen (entries_by k acts)) ∙ acts_of-own k acts) in
      let whole : w ≡ view (put log (own_record k v ∷ [])) false v.fixed = after ∙ ap (λ (rs : List (Record A)). view (put log rs) false v.fixed) is in
      (acts, grew.1, (λ i. seated_by (same i) k found (whole i)) ∙ ap (λ (l : List A). record (seated_by before k found v) { seen = log; own = first_own v.records ++ l; holds = false }) new)
