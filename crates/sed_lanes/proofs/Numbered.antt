-- Pairs put in order by numbers that differ.
use Rattle.std.proofs.Common.{Less, inl, inr, ◌≡◌, ℕ, zero, suc, ◌<◌, ◌≤◌, Bool, true, false, List, [], ◌∷◌, length, refl, sym, arith, get_or}
use Rattle.std.specs.Prelude.{◌⊎◌, nat_lt, ◌==◌, pos, nat_eq}
use Rattle.std.specs.List.{All, Contains, IsDistinct, AllByRecursion}
use Rattle.std.specs.List.Sorted.{IsPermutation, IsNonDecreasingBy, IsNonDecreasing, IsStrictlySortedBy}
use Rattle.std.specs.Map.{keys_of}
use Rattle.std.specs.Ordering.{nat_cmp}
use Rattle.std.proofs.lemmas.Bool.Decides.{nat_tests}
use Rattle.std.proofs.lemmas.List.{get_or-map, length-map}
use Rattle.std.proofs.lemmas.List.Sorted.{Contains-permutation, IsPermutation-sym, IsPermutation-map}
use Rattle.std.proofs.lemmas.List.Elements.{All-head, All-tail}
use Rattle.std.proofs.lemmas.Map.Views.{All-after_first}
use Rattle.std.proofs.lemmas.Map.Keys.{IsDistinct-head, IsDistinct-tail, IsDistinct-IsPermutation, sorted_tail, IsStrictlyIncreasing-from_distinct, sorted_from_strictly_increasing}
use Rattle.rtio_types.specs.declared.event.Event.{Event}
use Rattle.sed_lanes.specs.Heads.{by_number, is_earlier}
use Rattle.sed_lanes.proofs.Uniques.{IsStrict, IsIn, IsBeforeAll, IsRising, IsToldFrom, AreApart, sorted-is}

-- between the library's word for an element and the one by recursion
pub contained : {X : Type 0} (xs : List X) (z : X) → IsIn z xs → Contains xs z
contained [] z here = absurd here
contained (x ∷ xs) z (inl is) = (0, omega arith, sym is)
contained (x ∷ xs) z (inr there) =
    let deeper : Contains xs z = contained xs z there in
    (suc deeper.0, (let less : deeper.0 < length xs = deeper.1 in omega (arith, less)), deeper.2)

in-at : {X : Type 0} (xs : List X) (z : X) (k : ℕ) → k < length xs → get_or xs k z ≡ z → IsIn z xs
in-at [] z k lt is = absurd (omega (arith, lt))
in-at (x ∷ xs) z zero lt is = inl (sym is)
in-at (x ∷ xs) z (suc k) lt is = let less : k < length xs = omega (arith, lt) in inr (in-at xs z k less is)

pub in-contained : {X : Type 0} (xs : List X) (z : X) → Contains xs z → IsIn z xs
in-contained xs z c = in-at xs z c.0 c.1 c.2

pub earlier-strict : IsStrict is_earlier
earlier-strict = record {
  chain = λ x y z xy yz. grind (arith, nat_tests, xy, yz);
  apart = λ x. grind (arith, nat_tests);
}

told-by-number : (p : ℕ × Event) (ps : List (ℕ × Event)) → AllByRecursion (λ n. (p.0 == n) ≡ false) (keys_of ps) → IsToldFrom is_earlier p ps
told-by-number p [] all = tt
told-by-number p (q ∷ ps) all =
    let differ : (p.0 == q.0) ≡ false = all.0 in
    (told (nat_lt p.0 q.0) refl differ, told-by-number p ps all.1)
  where
    told : (b : Bool) → nat_lt p.0 q.0 ≡ b → (p.0 == q.0) ≡ false → (nat_lt p.0 q.0 ≡ true) ⊎ (nat_lt q.0 p.0 ≡ true)
    told true is differ = inl is
    told false is differ = inr (grind (arith, nat_tests, is, differ))

pub apart-by-number : (ps : List (ℕ × Event)) → IsDistinct nat_eq (keys_of ps) → AreApart is_earlier ps
apart-by-number [] distinct = tt
apart-by-number (p ∷ ps) distinct =
    (told-by-number p ps (IsDistinct-head nat_eq p.0 (keys_of ps) distinct), apart-by-number ps (IsDistinct-tail nat_eq p.0 (keys_of ps) distinct))

before-by-number : (p : ℕ × Event) (ps : List (ℕ × Event)) → All (λ n. nat_cmp p.0 n ≡ Less) (keys_of ps) → IsBeforeAll is_earlier p ps
before-by-number p [] all = tt
before-by-number p (q ∷ ps) all = (less (nat_lt p.0 q.0) refl (All-head (λ n. nat_cmp p.0 n ≡ Less) q.0 (keys_of ps) all), before-by-number p ps (All-tail (λ n. nat_cmp p.0 n ≡ Less) q.0 (keys_of ps) all))
  where
    less : (b : Bool) → nat_lt p.0 q.0 ≡ b → nat_cmp p.0 q.0 ≡ Less → nat_lt p.0 q.0 ≡ true
    less true is cmp = is
    less false is cmp = grind (arith, nat_tests, is, cmp)

rising-by-number : (ps : List (ℕ × Event)) → IsStrictlySortedBy nat_cmp (keys_of ps) → IsRising is_earlier ps
rising-by-number [] sorted = tt
rising-by-number (p ∷ ps) sorted =
    (before-by-number p ps (All-after_first nat_cmp p.0 (keys_of ps) sorted), rising-by-number ps (sorted_tail nat_cmp p.0 (keys_of ps) sorted))

keys-rise : (ps : List (ℕ × Event)) → IsNonDecreasingBy (λ p. p.0) ps → IsNonDecreasing (keys_of ps)
keys-rise ps rise i j d le lt =
    let below : j < length ps = rw (length-map ps (λ (p : ℕ × Event). p.0)) at lt in
    keys-at i j d le below
  where
    keys-at : (i j d : ℕ) → i ≤ j → j < length ps → get_or (keys_of ps) i d ≤ get_or (keys_of ps) j d
    keys-at i j d le below =
        let e : ℕ × Event = (d, record { channel = 0; address = 0; value = 0; stamp = pos 0 }) in
        let first : i < length ps = omega (arith, le, below) in
        rw (get_or-map (λ (p : ℕ × Event). p.0) ps i e d first, get_or-map (λ (p : ℕ × Event). p.0) ps j e d below) (rise i j e le below)

-- a list that a sort by their numbers gives
pub by_number-is : (ps qs : List (ℕ × Event)) → IsDistinct nat_eq (keys_of ps) → IsPermutation ps qs → IsNonDecreasingBy (λ p. p.0) qs → qs ≡ by_number ps
by_number-is ps qs distinct moved rise =
    let others : IsDistinct nat_eq (keys_of qs) =
    IsDistinct-IsPermutation nat_eq (λ n m. grind (arith, nat_tests)) (keys_of ps) (keys_of qs) (IsPermutation-map (λ p. p.0) ps qs moved) distinct in
    sorted-is is_earlier earlier-strict ps qs (apart-by-number ps distinct)
    (rising-by-number qs (sorted_from_strictly_increasing (keys_of qs) (IsStrictlyIncreasing-from_distinct (keys_of qs) (keys-rise qs rise) others)))
    (λ z here. in-contained qs z (Contains-permutation ps qs z moved (contained ps z here)))
    (λ z here. in-contained ps z (Contains-permutation qs ps z (IsPermutation-sym ps qs moved) (contained qs z here)))
