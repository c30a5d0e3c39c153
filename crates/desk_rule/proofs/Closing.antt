-- What the last state says, where one seat has the records of all chairs.
use Rattle.std.proofs.Common.{◌≡◌, ℕ, ◌<◌, ◌≤◌, List, [], ◌∷◌, set, Bool, true, false, true≢false, sym, ap, ◌∙◌, subst, arith, Option, None, Some}
use mathlib.Core.List.{IsPrefix}
use mathlib.Core.Logic.{dite}
use native.Mathlib.Decide.{dec_le}
use mathlib.Core.Option as slot
use lib.ListN.{get_elem?}
use Rattle.atomic_table.specs.Table.{State, Final, Seen}
use Rattle.desk_rule.specs.declared.view.Record.{Record}
use Rattle.desk_rule.specs.declared.view.View.{View}
use Rattle.desk_rule.specs.Histories.{acts_of, Each}
use Rattle.desk_rule.specs.Records.{same, win, records_of, times, wins}
use Rattle.desk_rule.specs.Kept.{Place, home, held, Fits, Sits, Lies, Kept}
use Rattle.desk_rule.specs.Steps.{spent}
use Rattle.desk_rule.specs.Closing.{Closes}
use Rattle.desk_rule.proofs.Weights.{each_weaker, weigh_set, each_at}
use Rattle.desk_rule.proofs.Changed.{holder_times, number_below, one_seat}

win_same : (k : ℕ) (b : Bool) (n : Option ℕ) → win k b n ≤ same k n
win_same k true n = omega arith
win_same k false n = omega arith

wins_times : {A : Type 0} (k : ℕ) (rs : List (Record A)) → wins k rs ≤ times k rs
wins_times k [] = omega arith
wins_times k (r ∷ rs) = let t = win_same k r.won r.number in let u = wins_times k rs in omega arith

abbrev value_or : {T : Type 0} → T → Option T → T
value_or d None = d
value_or d (Some x) = x

module _ {T A F : Type 0} (history : T → List (ℕ × A)) (fixed : T → F) (chairs : ℕ) (opened : F) where
  abbrev St : Type 0
  St = State (Option T) (View A F)

  abbrev Rule : St → Type 0
  Rule = Kept history fixed chairs opened

  -- the value is at home, and is as the records say
  abbrev pub AtHome : St → View A F → Type 0
  AtHome s v = (x : T) × (s.homes ≡ slot.some (Some x) ∷ []) × Closes history fixed chairs opened v.records x

  module _ (s : St) (kp : Rule s) (id : ℕ) (v : View A F) (at : get_elem? s.views id ≡ slot.some v) (none : v.pass ≡ false) (all : (k : ℕ) → k < chairs → 1 ≤ times k v.records) where
    -- a chair that has taken is among the records
    taken_here : (n : ℕ) → 0 < wins n (records_of s.views) → 0 < wins n v.records
    taken_here n taken =
        let g : Record A → ℕ = λ r. same n r.number in
        let h : Record A → ℕ = λ r. win n r.won r.number in
        let gone : List (View A F) = set s.views id spent in
        let numbers = weigh_set g s.views id v spent at in
        let takings = weigh_set h s.views id v spent at in
        let left = wins_times n (records_of gone) in
        let most = wins_times n (records_of s.views) in
        let one = kp.once n in
        let here : 1 ≤ times n v.records = all n (low n (omega arith)) in
        omega arith
      where
        low : (n : ℕ) → 1 ≤ times n (records_of s.views) → n < chairs
        low n some = dite (dec_le kp.made n) (λ over. let b = kp.below n over in absurd (omega arith)) (λ under. let m = kp.most in omega arith)

    at_place : (place : Place T) → Lies history fixed chairs opened place kp.log s → ((i : ℕ) (u : View A F) → get_elem? s.views i ≡ slot.some u → Sits place kp.log i u) → AtHome s v
    at_place (home x) lies sits =
        let fits = each_at (Fits kp.log kp.made) s.views id v at kp.fits in
        let lost = each_at (λ (r : Record A). Each (λ n. 0 < wins n (records_of s.views)) r.lost) s.views id v at kp.lost in (
          x,
          lies.1,
          record {
            stays = lies.3;
            seen = each_weaker (Fits kp.log kp.made) (λ r. IsPrefix r.seen (history x)) (λ r fit. subst (IsPrefix r.seen) (sym lies.2) fit.seen) v.records fits;
            own = each_weaker (Fits kp.log kp.made) (λ r. (k : ℕ) → r.number ≡ Some k → acts_of k (history x) ≡ r.own) (λ r fit k e. ap (acts_of k) lies.2 ∙ fit.own k e) v.records fits;
            others = λ k over. ap (acts_of k) lies.2 ∙ kp.unused k (let m = kp.most in omega arith);
            lost = each_weaker (λ r. Each (λ n. 0 < wins n (records_of s.views)) r.lost) (λ r. Each (λ n. 0 < wins n v.records) r.lost)
                (λ r. each_weaker (λ n. 0 < wins n (records_of s.views)) (λ n. 0 < wins n v.records) taken_here r.lost) v.records lost;
          },
        )
    at_place (held j k) lies sits =
        let u : View A F = lies.2.0 in
        let has = holder_times k kp.log u.records (sits j u lies.2.1 lies.2.2).1 in
        let low = number_below history fixed chairs opened s kp j k u lies.2.1 has in
        let most = kp.most in
        let one = one_seat history fixed chairs opened s kp j id k u v lies.2.1 at has (all k (omega arith)) in
        let same_view : v ≡ u = slot.some-injective v u (sym at ∙ (ap (get_elem? s.views) (sym one) ∙ lies.2.1)) in
        absurd (true≢false (sym lies.2.2 ∙ (ap (λ (w : View A F). w.pass) (sym same_view) ∙ none)))

    -- the seat with all chairs' records, and without the pass, finds the value at home
    pub closes : AtHome s v
    closes = at_place kp.place kp.lies kp.sits

  -- the slot's value
  pub ends : (id : ℕ) (v : View A F) (words : List ℕ) (slots : List (Option T)) (found : Option T) → Final (Seen Rule id v) words slots → v.pass ≡ false → ((k : ℕ) → k < chairs → 1 ≤ times k v.records)
      → get_elem? slots 0 ≡ slot.some found → (x : T) × (found ≡ Some x) × Closes history fixed chairs opened v.records x
  ends id v words slots found final none all read =
      let s = final.0 in
      let end = closes s final.1.0 id v final.1.1 none all in
      let home : get_elem? s.homes 0 ≡ slot.some (slot.some (Some end.0)) = ap (λ (hs : List (slot.Option (Option T))). get_elem? hs 0) end.1 in
      let there = final.4 0 (Some end.0) home in
      (end.0, slot.some-injective found (Some end.0) (sym read ∙ there), end.2)

  -- the same, where the value is known
  pub ends_at : (id : ℕ) (v : View A F) (words : List ℕ) (slots : List (Option T)) (found : Option T) (y : T) → Final (Seen Rule id v) words slots → v.pass ≡ false → ((k : ℕ) → k < chairs → 1 ≤ times k v.records)
      → get_elem? slots 0 ≡ slot.some found → found ≡ Some y → Closes history fixed chairs opened v.records y
  ends_at id v words slots found y final none all read is =
      let e = ends id v words slots found final none all read in
      subst (Closes history fixed chairs opened v.records) (ap (value_or y) (sym e.1 ∙ is)) e.2
