-- The steps at a view that is known: that of a chair, or of a note.
use Rattle.std.proofs.Common.{◌≡◌, ℕ, suc, ◌<◌, List, [], ◌∷◌, ◌++◌, Bool, true, false, eqb, eq-eqb, MatchBool, refl, sym, ap, ◌∙◌, subst, Option, Some, None}
use mathlib.Core.Option as slot
use prog.Atomic.{either}
use Rattle.atomic_table.specs.Table.{step, rest, Me, Step, State, Allows, Splits}
use Rattle.desk_rule.specs.declared.view.Record.{Record}
use Rattle.desk_rule.specs.declared.view.View.{View}
use Rattle.desk_rule.specs.Histories.{Grew}
use Rattle.desk_rule.specs.Records.{note_record, view}
use Rattle.desk_rule.specs.Kept.{Kept}
use Rattle.desk_rule.specs.Steps.{first_seen, first_made, counted, new_chair, told, merged, put, Tried, PutBack, Settled}
use Rattle.desk_rule.specs.Views.{own_record, IsOwn, IsNote}
use Rattle.desk_rule.proofs.Trying.{tries}
use Rattle.desk_rule.proofs.Putting.{puts}
use Rattle.desk_rule.proofs.Making.{makes, tells}
use Rattle.desk_rule.proofs.Settling.{settles}

module _ {A F : Type 0} where
  own_view : (k : ℕ) (v : View A F) → IsOwn k v → v ≡ view (own_record k v ∷ []) v.pass v.fixed
  own_view k v is = ap (λ (rs : List (Record A)). view rs v.pass v.fixed) is

-- what a step tells doesn't read the step itself
abbrev no_step : {S : Type 0} → Step S
no_step = step 0 0 0 0 slot.none

module _ {T A F : Type 0} (history : T → List (ℕ × A)) (fixed : T → F) (chairs : ℕ) (opened : F) where
  abbrev Rule : State (Option T) (View A F) → Type 0
  Rule = Kept history fixed chairs opened

  pub makes_at : (id : ℕ) (v : View A F) → IsOwn 0 v → first_made v.records < chairs → Splits Rule id v (counted v) (new_chair v)
  makes_at id v is more = subst (λ (u : View A F). Splits Rule id u (counted u) (new_chair u)) (sym (own_view 0 v is))
      (makes history fixed chairs opened id (own_record 0 v) v.pass v.fixed refl more)

  pub tells_at : (id k : ℕ) (v : View A F) → IsOwn k v → Splits Rule id v v (told v)
  tells_at id k v is = subst (λ (u : View A F). Splits Rule id u u (told u)) (sym (own_view k v is)) (tells history fixed chairs opened id (own_record k v) v.pass v.fixed)

  pub tries_at : (slots id k word : ℕ) (me : Me (Option T) (View A F)) → IsOwn k me.0 → me.0.pass ≡ false → me.1 ≡ [] → word ≡ suc k
      → Allows Rule slots id me 0 (λ n. either (eqb n 0) word n) (Tried history fixed no_step me)
  tries_at slots id k word me is free none next =
      let same : me ≡ (view (own_record k me.0 ∷ []) false me.0.fixed, []) = λ i. ((own_view k me.0 is ∙ ap (λ (p : Bool). view (own_record k me.0 ∷ []) p me.0.fixed) free) i, none i) in
      subst (λ (t : ℕ × Me (Option T) (View A F)). Allows Rule slots id t.1 0 (λ n. either (eqb n 0) t.0 n) (Tried history fixed no_step t.1)) (λ i. (sym next i, sym same i))
      (tries history fixed chairs opened slots id no_step (own_record k me.0) k me.0.fixed refl)

  pub puts_at : (slots id k : ℕ) (v : View A F) (out : List (ℕ × Option T)) (me : Me (Option T) (View A F)) (x : T) → IsOwn k v → v.pass ≡ true → out ≡ (0, None) ∷ [] → me ≡ (v, (0, Some x) ∷ rest out)
      → Grew k (first_seen v.records) (history x) → fixed x ≡ opened → Allows Rule slots id me 0 (λ _. 0) (λ _. PutBack history no_step me 0)
  puts_at slots id k v out me x is has one as_me grew stays =
      let same : me ≡ (view (own_record k v ∷ []) true v.fixed, (0, Some x) ∷ []) =
      as_me ∙ (λ i. ((own_view k v is ∙ ap (λ (p : Bool). view (own_record k v ∷ []) p v.fixed) has) i, (0, Some x) ∷ rest (one i))) in
      subst (λ (m : Me (Option T) (View A F)). Allows Rule slots id m 0 (λ _. 0) (λ _. PutBack history no_step m 0)) (sym same)
      (puts history fixed chairs opened slots id no_step (own_record k v) k v.fixed x refl grew stays)

  pub settles_at : (slots id k : ℕ) (v w : View A F) (out : List (ℕ × Option T)) (me : Me (Option T) (View A F)) → IsOwn k v → IsNote w → me ≡ (merged v w, out)
      → Allows Rule slots id me 0 (λ n. n) (Settled no_step me)
  settles_at slots id k v w out me is note as_me =
      let seen : List (ℕ × A) = first_seen w.records in
      let same : me ≡ (view (own_record k v ∷ note_record seen ∷ []) v.pass v.fixed, out) = as_me ∙ (λ i. (view (is i ++ (note i).records) v.pass v.fixed, out)) in
      subst (λ (m : Me (Option T) (View A F)). Allows Rule slots id m 0 (λ n. n) (Settled no_step m)) (sym same)
      (settles history fixed chairs opened slots id no_step (own_record k v) (note_record seen) v.pass v.fixed out refl)

-- what a put tells, of the chair's view before the value was in the slot
pub put_after : {T A F : Type 0} (history : T → List (ℕ × A)) (v : View A F) (out : List (ℕ × Option T)) (me after : Me (Option T) (View A F)) (x : T) → me ≡ (v, (0, Some x) ∷ rest out) → out ≡ (0, None) ∷ []
    → PutBack history no_step me 0 after → after ≡ (view (put (history x) v.records) false v.fixed, [])
put_after {T} {A} {F} history v out me after x as_me one told =
    let same : me ≡ (v, (0, Some x) ∷ []) = as_me ∙ (λ i. (v, (0, Some x) ∷ rest (one i))) in
    let t : PutBack history no_step (v, (0, Some x) ∷ []) 0 after = subst (λ (m : Me (Option T) (View A F)). PutBack history no_step m 0 after) same told in
    let u = t x refl in
    λ i. (u.0 i, u.1 i)

-- a list that begins with y
pub begins : {X : Type 0} (l : List (ℕ × X)) (y : ℕ × X) (ys : List (ℕ × X)) → l ≡ y ∷ ys → l ≡ y ∷ rest l
begins l y ys is = is ∙ ap (λ (m : List (ℕ × _)). y ∷ m) (sym (ap rest is))

-- what is told where the word was 0
pub at_zero : (n : ℕ) (P Q : Type 0) → MatchBool (eqb n 0) P Q → n ≡ 0 → P
at_zero n P Q h is = subst (λ (b : Bool). MatchBool b P Q) (eq-eqb n 0 is) h

abbrev slot_or : {X : Type 0} → X → List (ℕ × X) → X
slot_or d [] = d
slot_or d (s ∷ ss) = s.1

-- what the seat's only slot has
pub first_slot : {T : Type 0} (slots : List (ℕ × Option T)) (x y : Option T) → slots ≡ (0, x) ∷ rest slots → slots ≡ (0, y) ∷ [] → x ≡ y
first_slot slots x y is one = ap (slot_or x) (sym is ∙ one)
