-- The records of the chairs that are closed, in one view.
use Rattle.std.proofs.Common.{◌≡◌, ◌⊎◌, ℕ, ◌<◌, ◌≤◌, List, [], ◌∷◌, ◌++◌, length, Bool, true, false, refl, sym, ap, ◌∙◌, subst, ⊎_elim, inl, inr, arith, append_assoc, Option, Some, None, ◌==◌, eqb-true}
use mathlib.Core.List.{IsPrefix}
use Rattle.desk_rule.specs.Closing.{Closes}
use Rattle.desk_rule.specs.declared.view.Record.{Record}
use Rattle.desk_rule.specs.Histories.{acts_of, Each}
use Rattle.desk_rule.specs.Records.{one_if, same, win, chair_record, times, wins}
use Rattle.desk_rule.proofs.Weights.{each_append, each_weaker, each_left, each_right}
use Rattle.desk_rule.proofs.Changed.{same_here}
use Rattle.desk.specs.Seated.{Seated}
use Rattle.desk.specs.Chairs.{HasFound}
use Rattle.desk.specs.Closing.{HasNumber, HasTaken}

-- x stands in the list
abbrev pub In : {X : Type 0} → X → List X → Type 0
In x [] = ⊥
In x (y ∷ ys) = (y ≡ x) ⊎ In x ys

number_or : Option ℕ → ℕ
number_or None = 0
number_or (Some n) = n

some_number : {m n : ℕ} → Some m ≡ Some n → m ≡ n
unfolding number_or
some_number e = ap number_or e

same_or : (n : ℕ) (o : Option ℕ) → (same n o ≡ 0) ⊎ (o ≡ Some n)
same_or n None = inl refl
same_or n (Some m) = by_test (m == n) refl
  where
    by_test : (b : Bool) → (m == n) ≡ b → (one_if (m == n) ≡ 0) ⊎ (Some m ≡ Some n)
    by_test true is = inr (ap Some (eqb-true m n is))
    by_test false is = inl (ap one_if is)

-- the record is that of the chair n, which has taken, or it counts nothing
winner : (n : ℕ) (b : Bool) (o : Option ℕ) → (win n b o ≡ 0) ⊎ ((b ≡ true) × (o ≡ Some n))
winner n true o = ⊎_elim (λ e. inl e) (λ e. inr (refl, e)) (same_or n o)
winner n false o = inl refl

module _ {X : Type 0} where
  in_left : (x : X) (xs ys : List X) → In x xs → In x (xs ++ ys)
  in_left x [] ys h = absurd h
  in_left x (y ∷ xs) ys h = ⊎_elim (λ e. inl e) (λ t. inr (in_left x xs ys t)) h

  in_end : (x : X) (xs : List X) → In x (xs ++ x ∷ [])
  in_end x [] = inl refl
  in_end x (y ∷ xs) = inr (in_end x xs)

  each_in : (P : X → Type 0) (x : X) (xs : List X) → In x xs → Each P xs → P x
  each_in P x [] h all = absurd h
  each_in P x (y ∷ ys) h all = ⊎_elim (λ e. subst P e all.0) (λ t. each_in P x ys t all.1) h

in_times : {A : Type 0} (k : ℕ) (r : Record A) (rs : List (Record A)) → In r rs → r.number ≡ Some k → 1 ≤ times k rs
in_times k r [] h is = absurd h
in_times {A} k r (q ∷ rs) h is = ⊎_elim
    (λ (e : q ≡ r). let t = same_here k q.number (ap (λ (x : Record A). x.number) e ∙ is) in omega arith)
    (λ t. let u = in_times k r rs t is in omega arith) h

module _ {X : Type 0} where
  no_items : (xs : List X) → length xs ≡ 0 → xs ≡ []
  no_items [] is = refl
  no_items (x ∷ xs) is = absurd (omega arith)

  -- what holds of each of a list holds of the one that was popped off its front part
  pub of_last : (P : X → Type 0) (all items rest now : List X) (x : X) → items ++ rest ≡ all → items ≡ now ++ x ∷ [] → Each P all → P x
  of_last P all items rest now x whole popped h =
      (each_right P now (x ∷ []) (subst (Each P) popped (each_left P items rest (subst (Each P) (sym whole) h)))).0

  pub moved_one : (all items rest now : List X) (x : X) → items ++ rest ≡ all → items ≡ now ++ x ∷ [] → now ++ x ∷ rest ≡ all
  moved_one all items rest now x whole popped = sym (append_assoc now (x ∷ []) rest) ∙ (ap (λ (l : List X). l ++ rest) (sym popped) ∙ whole)

module _ {A F : Type 0} where
  -- the chair's record
  abbrev pub record_of : Seated A F → Bool → ℕ → Record A
  record_of c won made = chair_record c.number c.seen c.own c.lost won made

  -- among the records is the chair's
  abbrev pub Says : List (Record A) → Seated A F → Type 0
  Says rs c = (won : Bool) × (made : ℕ) × In (record_of c won made) rs

  -- the record is that of one of the chairs
  abbrev pub From : List (Seated A F) → Record A → Type 0
  From cs r = (c : Seated A F) × In c cs × (r.number ≡ Some c.number) × HasFound r.won c.takings

  -- the records are those of the chairs
  pub record Gathered (rs : List (Record A)) (cs : List (Seated A F)) : Type 0 where
    pub says : Each (Says rs) cs
    pub from : Each (From cs) rs

  -- the records of the first chair
  pub gathered_one : (rs : List (Record A)) (c : Seated A F) (won : Bool) (made : ℕ) → rs ≡ record_of c won made ∷ [] → HasFound won c.takings → Gathered rs (c ∷ [])
  gathered_one rs c won made is has = subst (λ (l : List (Record A)). Gathered l (c ∷ [])) (sym is)
      (record { says = ((won, made, inl refl), tt); from = ((c, inl refl, refl, has), tt) })

  -- one chair more
  pub gathered_more : (rs qs : List (Record A)) (cs : List (Seated A F)) (c : Seated A F) (won : Bool) (made : ℕ) → qs ≡ record_of c won made ∷ [] → HasFound won c.takings → Gathered rs cs
      → Gathered (rs ++ qs) (c ∷ cs)
  gathered_more rs qs cs c won made is has g =
      let r : Record A = record_of c won made in
      let now : List (Record A) = rs ++ r ∷ [] in
      subst (λ (l : List (Record A)). Gathered (rs ++ l) (c ∷ cs)) (sym is) (record {
        says = ((won, made, in_end r rs), each_weaker (Says rs) (Says now) (λ d s. (s.0, s.1, in_left (record_of d s.0 s.1) rs (r ∷ []) s.2)) cs g.says);
        from = each_append (From (c ∷ cs)) rs (r ∷ []) (each_weaker (From cs) (From (c ∷ cs)) (λ q f. (f.0, inr f.1, f.2, f.3)) rs g.from) ((c, inl refl, refl, has), tt);
      })

  -- what holds of the records holds of the chairs
  pub each_chair : (P : Record A → Type 0) (Q : Seated A F → Type 0) (rs : List (Record A)) (cs : List (Seated A F)) → Gathered rs cs → ((c : Seated A F) (won : Bool) (made : ℕ) → P (record_of c won made) → Q c) → Each P rs → Each Q cs
  each_chair P Q rs cs g f all = each_weaker (Says rs) Q (λ c s. f c s.0 s.1 (each_in P (record_of c s.0 s.1) rs s.2 all)) cs g.says

  -- no chair is left in the list
  pub gathered_all : (rs : List (Record A)) (all items cs : List (Seated A F)) → Gathered rs cs → length items ≡ 0 → items ++ cs ≡ all → Gathered rs all
  gathered_all rs all items cs g none whole = subst (Gathered rs) (ap (λ (l : List (Seated A F)). l ++ cs) (sym (no_items items none)) ∙ whole) g

  has_in : (k : ℕ) (cs : List (Seated A F)) → HasNumber cs k → (c : Seated A F) × In c cs × (c.number ≡ k)
  has_in k [] h = absurd h
  has_in k (c ∷ cs) h = ⊎_elim (λ e. (c, inl refl, e)) (λ t. let u = has_in k cs t in (u.0, inr u.1, u.2)) h

  -- a number that a chair has is that of a record
  pub number_there : (k : ℕ) (rs : List (Record A)) (cs : List (Seated A F)) → Gathered rs cs → HasNumber cs k → 1 ≤ times k rs
  number_there k rs cs g h =
      let c = has_in k cs h in
      let s = each_in (Says rs) c.0 cs c.1 g.says in
      in_times k (record_of c.0 s.0 s.1) rs s.2 (ap Some c.2)

  taken_in : (n : ℕ) (c : Seated A F) (cs : List (Seated A F)) → In c cs → c.number ≡ n → 0 < length c.takings → HasTaken cs n
  taken_in n c [] h number some = absurd h
  taken_in n c (d ∷ cs) h number some = ⊎_elim
      (λ (e : d ≡ c). inl (ap (λ (x : Seated A F). x.number) e ∙ number, (let P : Seated A F → Type 0 = λ x. 0 < length x.takings in subst P (sym e) some)))
      (λ t. inr (taken_in n c cs t number some)) h

  -- a number that has taken is that of a chair that has taken
  pub taken_there : (n : ℕ) (cs : List (Seated A F)) (rs : List (Record A)) → Each (From cs) rs → 0 < wins n rs → HasTaken cs n
  taken_there n cs [] from some = absurd (omega arith)
  taken_there n cs (r ∷ rs) from some = ⊎_elim
      (λ (none : win n r.won r.number ≡ 0). taken_there n cs rs from.1 (omega arith))
      (λ (one : (r.won ≡ true) × (r.number ≡ Some n)). let f = from.0 in taken_in n f.0 cs f.1 (some_number (sym f.2 ∙ one.1)) (let P : Bool → Type 0 = λ b. HasFound b f.0.takings in subst P one.0 f.3))
      (winner n r.won r.number)

-- what the value says at the end, of all chairs
pub record Ending {T A F : Type 0} (history : T → List (ℕ × A)) (fixed : T → F) (chairs : ℕ) (opened : F) (cs : List (Seated A F)) (x : T) : Type 0 where
  pub stays : fixed x ≡ opened
  pub seen : Each (λ c. IsPrefix c.seen (history x)) cs
  pub own : Each (λ c. acts_of c.number (history x) ≡ c.own) cs
  pub lost : Each (λ c. Each (HasTaken cs) c.lost) cs
  pub others : (k : ℕ) → chairs ≤ k → acts_of k (history x) ≡ []

module _ {T A F : Type 0} (history : T → List (ℕ × A)) (fixed : T → F) (chairs : ℕ) (opened : F) where
  -- what the value says of the records of all chairs, it says of the chairs
  pub ending : (rs : List (Record A)) (cs : List (Seated A F)) (x : T) → Closes history fixed chairs opened rs x → Gathered rs cs → Ending history fixed chairs opened cs x
  ending rs cs x end g = record {
    stays = end.stays;
    seen = each_chair (λ r. IsPrefix r.seen (history x)) (λ c. IsPrefix c.seen (history x)) rs cs g (λ c won made h. h) end.seen;
    own = each_chair (λ r. (k : ℕ) → r.number ≡ Some k → acts_of k (history x) ≡ r.own) (λ c. acts_of c.number (history x) ≡ c.own) rs cs g (λ c won made h. h c.number refl) end.own;
    lost = each_chair (λ r. Each (λ n. 0 < wins n rs) r.lost) (λ c. Each (HasTaken cs) c.lost) rs cs g
        (λ c won made. each_weaker (λ n. 0 < wins n rs) (HasTaken cs) (λ n h. taken_there n cs rs g.from h) c.lost) end.lost;
    others = end.others;
  }
