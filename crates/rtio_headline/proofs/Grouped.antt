-- The parts of the events of a group.
use Rattle.std.proofs.Common.{inl, inr, ◌≡◌, ◌<◌, ◌≤◌, ◌⊎◌, ℕ, Bool, true, false, List, [], ◌∷◌, refl, ap, ◌∙◌, sym, cond, subst, arith}
use Rattle.std.specs.Prelude.{ℤ, filter, ◌==◌, ◌&&◌, IsTrue}
use Rattle.std.specs.Ordering.{int_eq}
use Rattle.std.proofs.lemmas.Bool.{eqb-true}
use Rattle.std.proofs.lemmas.Bool.Decides.{nat_tests, Decides-int_eq}
use Rattle.rtio_types.specs.declared.event.Event.{Event}
use Rattle.rtio_types.specs.Board.{replaces}
use Rattle.rtio_types.specs.Time.{cycle_of, coarse_of, at_least_zero}
use Rattle.sed_lanes.specs.Heads.{is_earlier}
use Rattle.sed_lanes.proofs.InOrder.{rising-part}
use Rattle.sed_lanes.proofs.Uniques.{IsBeforeAll, IsRising}
use Rattle.output_merge.specs.declared.group.Part.TheVariants.{Keeper, Overridden, Collision}
use Rattle.output_merge.specs.Groups.{group_of, last_with, part_in, part_of}
use Rattle.rtio_headline.specs.Headline.{IsAmong}
use Rattle.rtio_headline.proofs.Lists.{among-filter, filter-among, before-each}

-- each of the events has a greater number
AreAbove : ℕ → List (ℕ × Event) → Type 0
AreAbove n xs = (q : ℕ × Event) → IsAmong q xs → n < q.0

pub above-first : (x : ℕ × Event) (xs : List (ℕ × Event)) → IsBeforeAll is_earlier x xs → (q : ℕ × Event) → IsAmong q xs → x.0 < q.0
above-first x xs all q here =
    let first : is_earlier x q ≡ true = before-each is_earlier x q xs all here in grind (arith, nat_tests, first)

last-least : (stamp : ℤ) (n : ℕ) (xs : List (ℕ × Event)) → ((q : ℕ × Event) → IsAmong q xs → n < q.0) → IsRising is_earlier xs → n ≤ last_with stamp n xs
last-least stamp n [] above rise = omega arith
last-least stamp n (x ∷ xs) above rise =
    by (int_eq x.1.stamp stamp) (last-least stamp x.0 xs (above-first x xs rise.0) rise.1) (last-least stamp n xs (λ q here. above q (inr here)) rise.1)
  where
    by : (b : Bool) → x.0 ≤ last_with stamp x.0 xs → n ≤ last_with stamp n xs → n ≤ last_with stamp (cond b x.0 n) xs
    by true own other = let first : n < x.0 = above x (inl refl) in omega (arith, first, own)
    by false own other = other

-- no event with the stamp comes behind the last
pub last-above : (stamp : ℤ) (n : ℕ) (xs : List (ℕ × Event)) (q : ℕ × Event) → ((r : ℕ × Event) → IsAmong r xs → n < r.0) → IsRising is_earlier xs → IsAmong q xs → int_eq q.1.stamp stamp ≡ true → q.0 ≤ last_with stamp n xs
last-above stamp n [] q above rise here is = absurd here
last-above stamp n (x ∷ xs) q above rise (inl same) is =
    let own : int_eq x.1.stamp stamp ≡ true = ap (λ (r : ℕ × Event). int_eq r.1.stamp stamp) (sym same) ∙ is in
    let number : q.0 ≡ x.0 = ap (λ (r : ℕ × Event). r.0) same in
    let least : x.0 ≤ last_with stamp x.0 xs = last-least stamp x.0 xs (above-first x xs rise.0) rise.1 in
    rw (own, number) least
last-above stamp n (x ∷ xs) q above rise (inr there) is =
    by (int_eq x.1.stamp stamp) (last-above stamp x.0 xs q (above-first x xs rise.0) rise.1 there is) (last-above stamp n xs q (λ r here. above r (inr here)) rise.1 there is)
  where
    by : (b : Bool) → q.0 ≤ last_with stamp x.0 xs → q.0 ≤ last_with stamp n xs → q.0 ≤ last_with stamp (cond b x.0 n) xs
    by true own other = own
    by false own other = other

-- the last is the first or one with the stamp
pub record IsLastOf (stamp : ℤ) (last : ℕ) (xs : List (ℕ × Event)) : Type 0 where
  pub event : ℕ × Event
  pub among : IsAmong event xs
  pub number : event.0 ≡ last
  pub has_stamp : int_eq event.1.stamp stamp ≡ true

pub last-found : (stamp : ℤ) (n : ℕ) (xs : List (ℕ × Event)) → (last_with stamp n xs ≡ n) ⊎ IsLastOf stamp (last_with stamp n xs) xs
last-found stamp n [] = inl refl
last-found stamp n (x ∷ xs) = by (int_eq x.1.stamp stamp) refl (last-found stamp x.0 xs) (last-found stamp n xs)
  where
    deeper : (last : ℕ) → IsLastOf stamp last xs → IsLastOf stamp last (x ∷ xs)
    deeper last h = record { event = h.event; among = inr h.among; number = h.number; has_stamp = h.has_stamp }

    by : (b : Bool) → int_eq x.1.stamp stamp ≡ b → (last_with stamp x.0 xs ≡ x.0) ⊎ IsLastOf stamp (last_with stamp x.0 xs) xs → (last_with stamp n xs ≡ n) ⊎ IsLastOf stamp (last_with stamp n xs) xs
        → (last_with stamp (cond b x.0 n) xs ≡ n) ⊎ IsLastOf stamp (last_with stamp (cond b x.0 n) xs) (x ∷ xs)
    by true is (inl own) other = inr (record { event = x; among = inl refl; number = sym own; has_stamp = is })
    by true is (inr own) other = inr (deeper _ own)
    by false is own (inl other) = inl other
    by false is own (inr other) = inr (deeper _ other)

-- ---- the parts

-- the number of the keeper of a group, by whether its channel replaces
abbrev pub keeper_of : Bool → (first : ℕ × Event) → List (ℕ × Event) → ℕ
keeper_of true first rest = last_with first.1.stamp first.0 rest
keeper_of false first rest = first.0

kept-number : (r s t u : Bool) (a b c : ℕ) → (a == b) ≡ t → (a == c) ≡ u
    → cond r (cond s (cond t Keeper Overridden) Collision) (cond u Keeper Collision) ≡ Keeper → a ≡ cond r b c
kept-number true true true u a b c bt cu is = eqb-true a b bt
kept-number true true false u a b c bt cu is = absurd (cc)
kept-number true false t u a b c bt cu is = absurd (cc)
kept-number false s t true a b c bt cu is = eqb-true a c cu
kept-number false s t false a b c bt cu is = absurd (cc)

pub keeper-number : (first : ℕ × Event) (rest : List (ℕ × Event)) (p : ℕ × Event) → part_in (first ∷ rest) p ≡ Keeper → p.0 ≡ keeper_of (replaces p.1.channel) first rest
keeper-number first rest p is =
    kept-number (replaces p.1.channel) (int_eq p.1.stamp first.1.stamp) _ _ p.0 (last_with first.1.stamp first.0 rest) first.0 refl refl is
    ∙ elim (replaces p.1.channel) as (λ r. cond r (last_with first.1.stamp first.0 rest) first.0 ≡ keeper_of r first rest) [ true ↦ refl | false ↦ refl ]

-- events of one channel and cycle have one group
same-group : (events : List (ℕ × Event)) (p q : ℕ × Event) → p.1.channel ≡ q.1.channel → cycle_of p.1 ≡ cycle_of q.1 → group_of p.1 events ≡ group_of q.1 events
same-group events p q channel cycle =
    ap (λ (c : ℕ). filter (λ (r : ℕ × Event). (r.1.channel == c) && (cycle_of r.1 == cycle_of p.1)) events) channel
    ∙ ap (λ (k : ℕ). filter (λ (r : ℕ × Event). (r.1.channel == q.1.channel) && (cycle_of r.1 == k)) events) cycle

in-group-test : (p q : ℕ × Event) → q.1.channel ≡ p.1.channel → cycle_of q.1 ≡ cycle_of p.1 → ((q.1.channel == p.1.channel) && (cycle_of q.1 == cycle_of p.1)) ≡ true
in-group-test p q channel cycle = grind (arith, nat_tests, channel, cycle)

pub in-group : (events : List (ℕ × Event)) (p q : ℕ × Event) → IsAmong q events → q.1.channel ≡ p.1.channel → cycle_of q.1 ≡ cycle_of p.1 → IsAmong q (group_of p.1 events)
in-group events p q here channel cycle = among-filter _ q events here (in-group-test p q channel cycle)

-- two keepers of one channel and cycle have one number
pub two-keepers : (events : List (ℕ × Event)) (p q : ℕ × Event) → IsAmong p events → part_of events p ≡ Keeper → part_of events q ≡ Keeper → p.1.channel ≡ q.1.channel → cycle_of p.1 ≡ cycle_of q.1 → p.0 ≡ q.0
two-keepers events p q here p_keeps q_keeps channel cycle =
    let group : group_of q.1 events ≡ group_of p.1 events = sym (same-group events p q channel cycle) in
    by (group_of p.1 events) (in-group events p p here refl refl) p_keeps (subst (λ (g : List (ℕ × Event)). part_in g q ≡ Keeper) group q_keeps)
  where
    by : (g : List (ℕ × Event)) → IsAmong p g → part_in g p ≡ Keeper → part_in g q ≡ Keeper → p.0 ≡ q.0
    by [] there one other = absurd there
    by (first ∷ rest) there one other =
        keeper-number first rest p one ∙ ap (λ (c : ℕ). keeper_of (replaces c) first rest) channel ∙ sym (keeper-number first rest q other)

-- the stamps decide the cycles
pub same-cycle : (p q : ℕ × Event) → q.1.stamp ≡ p.1.stamp → cycle_of q.1 ≡ cycle_of p.1
same-cycle p q stamp = ap (λ (z : ℤ). at_least_zero (coarse_of z)) stamp

stamps-apart : (r s t u : Bool) → r ≡ true → cond r (cond s (cond t Keeper Overridden) Collision) (cond u Keeper Collision) ≡ Keeper → s ≡ true
stamps-apart true true t u is keeps = refl
stamps-apart true false t u is keeps = absurd (cc)
stamps-apart false s t u is keeps = absurd (cc)

-- a keeper isn't followed by one of its channel and stamp, if its channel replaces
pub keeper-last : (events : List (ℕ × Event)) (p q : ℕ × Event) → IsRising is_earlier events → IsAmong q events → IsTrue (replaces p.1.channel) → part_of events p ≡ Keeper → q.1.channel ≡ p.1.channel → q.1.stamp ≡ p.1.stamp → q.0 ≤ p.0
keeper-last events p q rise here replacing keeps channel stamp =
    by (group_of p.1 events) (rising-part is_earlier _ events rise) (in-group events p q here channel (same-cycle p q stamp)) keeps
  where
    of-first : (first : ℕ × Event) (rest : List (ℕ × Event)) → IsRising is_earlier (first ∷ rest) → IsAmong q (first ∷ rest) → int_eq p.1.stamp first.1.stamp ≡ true → p.0 ≡ last_with first.1.stamp first.0 rest → q.0 ≤ p.0
    of-first first rest up (inl is) same number =
        let own : q.0 ≡ first.0 = ap (λ (r : ℕ × Event). r.0) is in
        let least : first.0 ≤ last_with first.1.stamp first.0 rest = last-least first.1.stamp first.0 rest (above-first first rest up.0) up.1 in
        omega (arith, own, least, number)
    of-first first rest up (inr there) same number =
        let has : int_eq q.1.stamp first.1.stamp ≡ true = ap (λ (z : ℤ). int_eq z first.1.stamp) stamp ∙ same in
        let above : q.0 ≤ last_with first.1.stamp first.0 rest = last-above first.1.stamp first.0 rest q (above-first first rest up.0) up.1 there has in
        omega (arith, above, number)

    by : (g : List (ℕ × Event)) → IsRising is_earlier g → IsAmong q g → part_in g p ≡ Keeper → q.0 ≤ p.0
    by [] up there is = absurd there
    by (first ∷ rest) up there is =
        of-first first rest up there
        (stamps-apart (replaces p.1.channel) (int_eq p.1.stamp first.1.stamp) _ _ replacing is)
        (keeper-number first rest p is ∙ ap (λ (r : Bool). keeper_of r first rest) replacing)

-- what an overridden event is
pub record IsOverriddenIn (first : ℕ × Event) (rest : List (ℕ × Event)) (p : ℕ × Event) : Type 0 where
  pub replacing : replaces p.1.channel ≡ true
  pub same : int_eq p.1.stamp first.1.stamp ≡ true
  pub other : (p.0 == last_with first.1.stamp first.0 rest) ≡ false

overridden-by : (r s t u : Bool) → cond r (cond s (cond t Keeper Overridden) Collision) (cond u Keeper Collision) ≡ Overridden → (r ≡ true) × (s ≡ true) × (t ≡ false)
overridden-by true true true u is = absurd (cc)
overridden-by true true false u is = (refl, refl, refl)
overridden-by true false t u is = absurd (cc)
overridden-by false s t true is = absurd (cc)
overridden-by false s t false is = absurd (cc)

pub record IsFollowed (events : List (ℕ × Event)) (p : ℕ × Event) : Type 0 where
  pub replacing : IsTrue (replaces p.1.channel)
  pub other : ℕ × Event
  pub among : IsAmong other events
  pub later : p.0 < other.0
  pub channel : other.1.channel ≡ p.1.channel
  pub stamp : other.1.stamp ≡ p.1.stamp

group-channel : (p q : ℕ × Event) → ((q.1.channel == p.1.channel) && (cycle_of q.1 == cycle_of p.1)) ≡ true → q.1.channel ≡ p.1.channel
group-channel p q is = by (q.1.channel == p.1.channel) refl is
  where
    by : (b : Bool) → (q.1.channel == p.1.channel) ≡ b → (b && (cycle_of q.1 == cycle_of p.1)) ≡ true → q.1.channel ≡ p.1.channel
    by true same h = eqb-true q.1.channel p.1.channel same
    by false same h = absurd (cc)

-- an overridden event is followed by one of its channel and stamp
pub overridden-followed : (events : List (ℕ × Event)) (p : ℕ × Event) → IsRising is_earlier events → IsAmong p events → part_of events p ≡ Overridden → IsFollowed events p
overridden-followed events p rise here is =
    by (group_of p.1 events) refl (rising-part is_earlier _ events rise) (in-group events p p here refl refl) is
  where
    followed : (first : ℕ × Event) (rest : List (ℕ × Event)) (q : ℕ × Event) → group_of p.1 events ≡ first ∷ rest → IsRising is_earlier (first ∷ rest) → IsAmong p (first ∷ rest)
        → (replaces p.1.channel ≡ true) × (int_eq p.1.stamp first.1.stamp ≡ true) × ((p.0 == last_with first.1.stamp first.0 rest) ≡ false)
        → IsAmong q (first ∷ rest) → q.0 ≡ last_with first.1.stamp first.0 rest → int_eq q.1.stamp first.1.stamp ≡ true → IsFollowed events p
    followed first rest q group up p_in parts q_in number has =
        let in_events = filter-among (λ (r : ℕ × Event). (r.1.channel == p.1.channel) && (cycle_of r.1 == cycle_of p.1)) q events (subst (IsAmong q) (sym group) q_in) in
        let p_stamp : p.1.stamp ≡ first.1.stamp = (Decides-int_eq p.1.stamp first.1.stamp).0 parts.1 in
        let q_stamp : q.1.stamp ≡ first.1.stamp = (Decides-int_eq q.1.stamp first.1.stamp).0 has in
        let most : p.0 ≤ last_with first.1.stamp first.0 rest = at-most p_in in
        let differ = parts.2 in
        let less : p.0 < last_with first.1.stamp first.0 rest = grind (arith, nat_tests, most, differ) in
        record {
          replacing = parts.0;
          other = q;
          among = in_events.0;
          later = omega (arith, less, number);
          channel = group-channel p q in_events.1;
          stamp = q_stamp ∙ sym p_stamp;
        }
      where
        at-most : IsAmong p (first ∷ rest) → p.0 ≤ last_with first.1.stamp first.0 rest
        at-most (inl same) =
            let own : p.0 ≡ first.0 = ap (λ (r : ℕ × Event). r.0) same in
            let least : first.0 ≤ last_with first.1.stamp first.0 rest = last-least first.1.stamp first.0 rest (above-first first rest up.0) up.1 in
            omega (arith, own, least)
        at-most (inr there) = last-above first.1.stamp first.0 rest p (above-first first rest up.0) up.1 there parts.1

    by-last : (first : ℕ × Event) (rest : List (ℕ × Event)) → group_of p.1 events ≡ first ∷ rest → IsRising is_earlier (first ∷ rest) → IsAmong p (first ∷ rest)
        → (replaces p.1.channel ≡ true) × (int_eq p.1.stamp first.1.stamp ≡ true) × ((p.0 == last_with first.1.stamp first.0 rest) ≡ false)
        → (last_with first.1.stamp first.0 rest ≡ first.0) ⊎ IsLastOf first.1.stamp (last_with first.1.stamp first.0 rest) rest → IsFollowed events p
    by-last first rest group up p_in parts (inl own) = followed first rest first group up p_in parts (inl refl) (sym own) ((Decides-int_eq first.1.stamp first.1.stamp).1 refl)
    by-last first rest group up p_in parts (inr last) = followed first rest last.event group up p_in parts (inr last.among) last.number last.has_stamp

    by : (g : List (ℕ × Event)) → group_of p.1 events ≡ g → IsRising is_earlier g → IsAmong p g → part_in g p ≡ Overridden → IsFollowed events p
    by [] group up p_in h = absurd p_in
    by (first ∷ rest) group up p_in h =
        by-last first rest group up p_in
        (overridden-by (replaces p.1.channel) (int_eq p.1.stamp first.1.stamp) (p.0 == last_with first.1.stamp first.0 rest) (p.0 == first.0) h)
        (last-found first.1.stamp first.0 rest)
