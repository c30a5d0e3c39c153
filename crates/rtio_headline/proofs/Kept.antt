-- The keepers: they rise by stamp and channel, and each is put out or busy.
use Rattle.std.proofs.Common.{inl, inr, ◌≡◌, ◌<◌, ◌⊎◌, ℕ, Bool, true, false, List, [], ◌∷◌, ◌++◌, refl, ap, ◌∙◌, sym, cond, arith}
use Rattle.std.specs.Prelude.{ℤ, pos, negsuc, int_lt, filter, nat_lt, ◌&&◌, ◌||◌}
use Rattle.std.specs.Ordering.{int_eq}
use Rattle.std.proofs.lemmas.Bool.Decides.{nat_tests}
use Rattle.rtio_types.specs.declared.event.Event.{Event}
use Rattle.sed_lanes.specs.Heads.{is_earlier}
use Rattle.sed_lanes.proofs.InOrder.{rising-part}
use Rattle.sed_lanes.proofs.Uniques.{AreApart, IsBeforeAll, IsRising, IsStrict, IsToldFrom, sorted-rising}
use Rattle.output_merge.specs.declared.group.Part.{Part}
use Rattle.output_merge.specs.declared.group.Part.TheVariants.{Keeper, Overridden, Collision}
use Rattle.output_merge.specs.Busy.{busy_behind, is_busy, put_out_behind}
use Rattle.output_merge.specs.Groups.{is_keeper, is_put_out_before, keepers, part_of}
use Rattle.rtio_headline.specs.Headline.{IsAmong}
use Rattle.rtio_headline.proofs.Grouped.{same-cycle, two-keepers}
use Rattle.rtio_headline.proofs.Lists.{before-each, filter-among}

-- by a stamp and then by a channel
abbrev lex : ℤ → ℕ → ℤ → ℕ → Bool
lex x i y j = int_lt x y || (int_eq x y && nat_lt i j)

lex-chain : (x y z : ℤ) (i j k : ℕ) → lex x i y j ≡ true → lex y j z k ≡ true → lex x i z k ≡ true
lex-chain (pos a) (pos b) (pos c) i j k one two = grind (arith, nat_tests, one, two)
lex-chain (pos a) (pos b) (negsuc c) i j k one two = absurd (cc)
lex-chain (pos a) (negsuc b) z i j k one two = absurd (cc)
lex-chain (negsuc a) (pos b) (pos c) i j k one two = refl
lex-chain (negsuc a) (pos b) (negsuc c) i j k one two = absurd (cc)
lex-chain (negsuc a) (negsuc b) (pos c) i j k one two = refl
lex-chain (negsuc a) (negsuc b) (negsuc c) i j k one two = grind (arith, nat_tests, one, two)

lex-apart : (x : ℤ) (i : ℕ) → lex x i x i ≡ false
lex-apart (pos a) i = grind (arith, nat_tests)
lex-apart (negsuc a) i = grind (arith, nat_tests)

pub put_out-strict : IsStrict is_put_out_before
put_out-strict = record {
  chain = λ p q r one two. lex-chain p.1.stamp q.1.stamp r.1.stamp p.1.channel q.1.channel r.1.channel one two;
  apart = λ p. lex-apart p.1.stamp p.1.channel;
}

-- two that the order doesn't tell apart have one stamp and one channel
lex-same : (x y : ℤ) (i j : ℕ) → lex x i y j ≡ false → lex y j x i ≡ false → (x ≡ y) × (i ≡ j)
lex-same (pos a) (pos b) i j one two =
    let stamps : a ≡ b = grind (arith, nat_tests, one, two) in
    let channels : i ≡ j = grind (arith, nat_tests, one, two, stamps) in
    (ap pos stamps, channels)
lex-same (pos a) (negsuc b) i j one two = absurd (cc)
lex-same (negsuc a) (pos b) i j one two = absurd (cc)
lex-same (negsuc a) (negsuc b) i j one two =
    let stamps : a ≡ b = grind (arith, nat_tests, one, two) in
    let channels : i ≡ j = grind (arith, nat_tests, one, two, stamps) in
    (ap negsuc stamps, channels)

-- ---- the keepers rise

told : (p q : ℕ × Event) → ((p.1.stamp ≡ q.1.stamp) → (p.1.channel ≡ q.1.channel) → ⊥) → (is_put_out_before p q ≡ true) ⊎ (is_put_out_before q p ≡ true)
told p q differ = by (is_put_out_before p q) (is_put_out_before q p) refl refl
  where
    by : (b c : Bool) → is_put_out_before p q ≡ b → is_put_out_before q p ≡ c → (is_put_out_before p q ≡ true) ⊎ (is_put_out_before q p ≡ true)
    by true c one two = inl one
    by false true one two = inr two
    by false false one two =
        let same = lex-same p.1.stamp q.1.stamp p.1.channel q.1.channel one two in absurd (differ same.0 same.1)

told-from : (p : ℕ × Event) (xs : List (ℕ × Event)) → ((q : ℕ × Event) → IsAmong q xs → (p.1.stamp ≡ q.1.stamp) → (p.1.channel ≡ q.1.channel) → ⊥) → IsToldFrom is_put_out_before p xs
told-from p [] differ = tt
told-from p (q ∷ xs) differ = (told p q (differ q (inl refl)), told-from p xs (λ r here. differ r (inr here)))

apart-of : (xs : List (ℕ × Event)) → IsRising is_earlier xs → ((p q : ℕ × Event) → IsAmong p xs → IsAmong q xs → p.1.stamp ≡ q.1.stamp → p.1.channel ≡ q.1.channel → p.0 ≡ q.0) → AreApart is_put_out_before xs
apart-of [] rise same = tt
apart-of (x ∷ xs) rise same = (told-from x xs differ, apart-of xs rise.1 (λ p q p_in q_in. same p q (inr p_in) (inr q_in)))
  where
    differ : (q : ℕ × Event) → IsAmong q xs → x.1.stamp ≡ q.1.stamp → x.1.channel ≡ q.1.channel → ⊥
    differ q here stamp channel =
        let number : x.0 ≡ q.0 = same x q (inl refl) (inr here) stamp channel in
        let first : is_earlier x q ≡ true = before-each is_earlier x q xs rise.0 here in
        let less : x.0 < q.0 = grind (arith, nat_tests, first) in
        omega (arith, number, less)

is-keeper : (part : Part) → is_keeper part ≡ true → part ≡ Keeper
is-keeper Keeper is = refl
is-keeper Overridden is = absurd (cc)
is-keeper Collision is = absurd (cc)

pub keepers-rise : (events : List (ℕ × Event)) → IsRising is_earlier events → IsRising is_put_out_before (keepers events)
keepers-rise events rise =
    sorted-rising is_put_out_before put_out-strict (filter (λ p. is_keeper (part_of events p)) events)
    (apart-of (filter (λ p. is_keeper (part_of events p)) events) (rising-part is_earlier _ events rise) same)
  where
    same : (p q : ℕ × Event) → IsAmong p (filter (λ r. is_keeper (part_of events r)) events) → IsAmong q (filter (λ r. is_keeper (part_of events r)) events) → p.1.stamp ≡ q.1.stamp → p.1.channel ≡ q.1.channel → p.0 ≡ q.0
    same p q p_in q_in stamp channel =
        let one = filter-among (λ r. is_keeper (part_of events r)) p events p_in in
        let other = filter-among (λ r. is_keeper (part_of events r)) q events q_in in
        two-keepers events p q one.0 (is-keeper _ one.1) (is-keeper _ other.1) channel (same-cycle q p stamp)

-- ---- those that are put out, and the busy ones

pub put_out-among : (holds : List ℕ) (out xs : List (ℕ × Event)) (p : ℕ × Event) → IsAmong p (put_out_behind holds out xs) → IsAmong p xs
put_out-among holds out [] p here = absurd here
put_out-among holds out (x ∷ xs) p here = by (is_busy holds out x) here (put_out-among holds out xs p) (put_out-among holds (out ++ x ∷ []) xs p)
  where
    by : (b : Bool) → IsAmong p (cond b (put_out_behind holds out xs) (x ∷ put_out_behind holds (out ++ x ∷ []) xs)) → (IsAmong p (put_out_behind holds out xs) → IsAmong p xs) → (IsAmong p (put_out_behind holds (out ++ x ∷ []) xs) → IsAmong p xs) → IsAmong p (x ∷ xs)
    by true there ih more = inr (ih there)
    by false (inl is) ih more = inl is
    by false (inr there) ih more = inr (more there)

pub busy-among : (holds : List ℕ) (out xs : List (ℕ × Event)) (p : ℕ × Event) → IsAmong p (busy_behind holds out xs) → IsAmong p xs
busy-among holds out [] p here = absurd here
busy-among holds out (x ∷ xs) p here = by (is_busy holds out x) here (busy-among holds out xs p) (busy-among holds (out ++ x ∷ []) xs p)
  where
    by : (b : Bool) → IsAmong p (cond b (x ∷ busy_behind holds out xs) (busy_behind holds (out ++ x ∷ []) xs)) → (IsAmong p (busy_behind holds out xs) → IsAmong p xs) → (IsAmong p (busy_behind holds (out ++ x ∷ []) xs) → IsAmong p xs) → IsAmong p (x ∷ xs)
    by true (inl is) ih more = inl is
    by true (inr there) ih more = inr (ih there)
    by false there ih more = inr (more there)

-- each keeper is one of the two
pub put_out-or-busy : (holds : List ℕ) (out xs : List (ℕ × Event)) (p : ℕ × Event) → IsAmong p xs → IsAmong p (put_out_behind holds out xs) ⊎ IsAmong p (busy_behind holds out xs)
put_out-or-busy holds out [] p here = absurd here
put_out-or-busy holds out (x ∷ xs) p here = by (is_busy holds out x) here (put_out-or-busy holds out xs p) (put_out-or-busy holds (out ++ x ∷ []) xs p)
  where
    with-busy : IsAmong p (put_out_behind holds out xs) ⊎ IsAmong p (busy_behind holds out xs) → IsAmong p (put_out_behind holds out xs) ⊎ IsAmong p (x ∷ busy_behind holds out xs)
    with-busy (inl there) = inl there
    with-busy (inr there) = inr (inr there)

    with-out : IsAmong p (put_out_behind holds (out ++ x ∷ []) xs) ⊎ IsAmong p (busy_behind holds (out ++ x ∷ []) xs) → IsAmong p (x ∷ put_out_behind holds (out ++ x ∷ []) xs) ⊎ IsAmong p (busy_behind holds (out ++ x ∷ []) xs)
    with-out (inl there) = inl (inr there)
    with-out (inr there) = inr there

    by : (b : Bool) → (p ≡ x) ⊎ IsAmong p xs → (IsAmong p xs → IsAmong p (put_out_behind holds out xs) ⊎ IsAmong p (busy_behind holds out xs))
        → (IsAmong p xs → IsAmong p (put_out_behind holds (out ++ x ∷ []) xs) ⊎ IsAmong p (busy_behind holds (out ++ x ∷ []) xs))
        → IsAmong p (cond b (put_out_behind holds out xs) (x ∷ put_out_behind holds (out ++ x ∷ []) xs)) ⊎ IsAmong p (cond b (x ∷ busy_behind holds out xs) (busy_behind holds (out ++ x ∷ []) xs))
    by true (inl is) ih more = inr (inl is)
    by true (inr there) ih more = with-busy (ih there)
    by false (inl is) ih more = inl (inl is)
    by false (inr there) ih more = with-out (more there)

not-itself : (x p : ℕ × Event) (xs : List (ℕ × Event)) → IsBeforeAll is_put_out_before x xs → p ≡ x → IsAmong p xs → ⊥
not-itself x p xs all is there =
    let before : is_put_out_before x p ≡ true = before-each is_put_out_before x p xs all there in
    let clash : true ≡ false = sym before ∙ ap (is_put_out_before x) is ∙ put_out-strict.apart x in
    absurd (cc)

-- and not both
pub not-put_out-and-busy : (holds : List ℕ) (out xs : List (ℕ × Event)) (p : ℕ × Event) → IsRising is_put_out_before xs → IsAmong p (put_out_behind holds out xs) → IsAmong p (busy_behind holds out xs) → ⊥
not-put_out-and-busy holds out [] p rise here there = here
not-put_out-and-busy holds out (x ∷ xs) p rise here there =
    by (is_busy holds out x) here there (not-put_out-and-busy holds out xs p rise.1) (not-put_out-and-busy holds (out ++ x ∷ []) xs p rise.1)
  where
    by : (b : Bool) → IsAmong p (cond b (put_out_behind holds out xs) (x ∷ put_out_behind holds (out ++ x ∷ []) xs)) → IsAmong p (cond b (x ∷ busy_behind holds out xs) (busy_behind holds (out ++ x ∷ []) xs))
        → (IsAmong p (put_out_behind holds out xs) → IsAmong p (busy_behind holds out xs) → ⊥) → (IsAmong p (put_out_behind holds (out ++ x ∷ []) xs) → IsAmong p (busy_behind holds (out ++ x ∷ []) xs) → ⊥) → ⊥
    by true out_there (inl is) ih more = not-itself x p xs rise.0 is (put_out-among holds out xs p out_there)
    by true out_there (inr busy_there) ih more = ih out_there busy_there
    by false (inl is) busy_there ih more = not-itself x p xs rise.0 is (busy-among holds (out ++ x ∷ []) xs p busy_there)
    by false (inr out_there) busy_there ih more = more out_there busy_there

before-put_out : (holds : List ℕ) (out xs : List (ℕ × Event)) (p : ℕ × Event) → IsBeforeAll is_put_out_before p xs → IsBeforeAll is_put_out_before p (put_out_behind holds out xs)
before-put_out holds out [] p all = tt
before-put_out holds out (x ∷ xs) p all =
    elim (is_busy holds out x) as (λ b. IsBeforeAll is_put_out_before p (cond b (put_out_behind holds out xs) (x ∷ put_out_behind holds (out ++ x ∷ []) xs)))
    [ true ↦ before-put_out holds out xs p all.1 | false ↦ (all.0, before-put_out holds (out ++ x ∷ []) xs p all.1) ]

-- those that are put out rise as the keepers do
pub put_out-rise : (holds : List ℕ) (out xs : List (ℕ × Event)) → IsRising is_put_out_before xs → IsRising is_put_out_before (put_out_behind holds out xs)
put_out-rise holds out [] rise = tt
put_out-rise holds out (x ∷ xs) rise =
    elim (is_busy holds out x) as (λ b. IsRising is_put_out_before (cond b (put_out_behind holds out xs) (x ∷ put_out_behind holds (out ++ x ∷ []) xs)))
    [ true ↦ put_out-rise holds out xs rise.1 | false ↦ (before-put_out holds (out ++ x ∷ []) xs x rise.0, put_out-rise holds (out ++ x ∷ []) xs rise.1) ]
