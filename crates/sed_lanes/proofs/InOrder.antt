-- Events in the order of their numbers.
use Rattle.std.proofs.Common.{inl, inr, ◌≡◌, ◌<◌, ◌≤◌, ℕ, Bool, true, false, List, [], ◌∷◌, ◌++◌, refl, ap, ◌∙◌, sym, cond, arith}
use Rattle.std.specs.Prelude.{filter, nat_eq, ◌&&◌}
use Rattle.std.specs.List.{list_all, IsDistinct, AllByRecursion}
use Rattle.std.specs.List.Sorted.{IsPermutation}
use Rattle.std.specs.Map.{keys_of}
use Rattle.std.proofs.lemmas.Bool.Decides.{nat_tests}
use Rattle.std.proofs.lemmas.List.Sorted.{IsPermutation-map, IsPermutation-sym, Contains-permutation}
use Rattle.std.proofs.lemmas.Map.Keys.{IsDistinct-IsPermutation, IsDistinct-cons}
use Rattle.rtio_types.specs.declared.event.Event.{Event}
use Rattle.sed_lanes.specs.Heads.{by_number, is_earlier}
use Rattle.sed_lanes.proofs.Made.{none-distinct}
use Rattle.sed_lanes.proofs.Numbered.{earlier-strict, apart-by-number, contained, in-contained}
use Rattle.sed_lanes.proofs.Orders.{IsChain, filter-sorted}
use Rattle.sed_lanes.proofs.Uniques.{IsBeforeAll, IsIn, IsRising, sorted-is}

-- by number is an order
pub earlier-chain : IsChain is_earlier
earlier-chain = record {
  chain = λ x y z one two. grind (arith, nat_tests, one, two);
  one_way = λ x y h. grind (arith, nat_tests, h);
}

-- a part of the events by number is those events' part by number
pub filter-by_number : (test : ℕ × Event → Bool) (events : List (ℕ × Event)) → filter test (by_number events) ≡ by_number (filter test events)
filter-by_number test events = filter-sorted is_earlier earlier-chain test events

-- each number is below this one
abbrev pub AreNumbersBelow : ℕ → List (ℕ × Event) → Type 0
AreNumbersBelow number [] = Unit {0}
AreNumbersBelow number (p ∷ rest) = (p.0 < number) × AreNumbersBelow number rest

pub numbers-below-later : (number later : ℕ) (events : List (ℕ × Event)) → number ≤ later → AreNumbersBelow number events → AreNumbersBelow later events
numbers-below-later number later [] le below = tt
numbers-below-later number later (p ∷ rest) le below =
    let first = below.0 in (omega (arith, first, le), numbers-below-later number later rest le below.1)

pub numbers-below-push : (number : ℕ) (events : List (ℕ × Event)) (p : ℕ × Event) → AreNumbersBelow number events → p.0 < number → AreNumbersBelow number (events ++ p ∷ [])
numbers-below-push number [] p below lt = (lt, tt)
numbers-below-push number (q ∷ rest) p below lt = (below.0, numbers-below-push number rest p below.1 lt)

before-push : (q : ℕ × Event) (events : List (ℕ × Event)) (p : ℕ × Event) → IsBeforeAll is_earlier q events → is_earlier q p ≡ true → IsBeforeAll is_earlier q (events ++ p ∷ [])
before-push q [] p all one = (one, tt)
before-push q (r ∷ rest) p all one = (all.0, before-push q rest p all.1 one)

-- events by number stay so with one of a greater number
pub rising-number-push : (events : List (ℕ × Event)) (p : ℕ × Event) → IsRising is_earlier events → AreNumbersBelow p.0 events → IsRising is_earlier (events ++ p ∷ [])
rising-number-push [] p rise below = (tt, tt)
rising-number-push (q ∷ rest) p rise below =
    let first = below.0 in
    let one : is_earlier q p ≡ true = grind (arith, nat_tests, first) in
    (before-push q rest p rise.0 one, rising-number-push rest p rise.1 below.1)

before-filter : {X : Type 0} (before : X → X → Bool) (test : X → Bool) (x : X) (xs : List X) → IsBeforeAll before x xs → IsBeforeAll before x (filter test xs)
before-filter before test x [] all = tt
before-filter before test x (y ∷ ys) all =
    elim (test y) as (λ b. IsBeforeAll before x (cond b (y ∷ filter test ys) (filter test ys))) [ true ↦ (all.0, before-filter before test x ys all.1) | false ↦ before-filter before test x ys all.1 ]

-- so does a part of them
pub rising-part : {X : Type 0} (before : X → X → Bool) (test : X → Bool) (xs : List X) → IsRising before xs → IsRising before (filter test xs)
rising-part before test [] rise = tt
rising-part before test (x ∷ xs) rise = part (test x) refl (before-filter before test x xs rise.0) (rising-part before test xs rise.1)
  where
    part : (b : Bool) → test x ≡ b → IsBeforeAll before x (filter test xs) → IsRising before (filter test xs) → IsRising before (filter test (x ∷ xs))
    part true is first ih = rw is (first, ih)
    part false is first ih = rw is ih

others : (p : ℕ × Event) (events : List (ℕ × Event)) → IsBeforeAll is_earlier p events → AllByRecursion (λ n. nat_eq p.0 n ≡ false) (keys_of events)
others p [] all = tt
others p (q ∷ rest) all = let first = all.0 in (grind (arith, nat_tests, first), others p rest all.1)

-- no two of them have one number
pub rising-distinct : (events : List (ℕ × Event)) → IsRising is_earlier events → IsDistinct nat_eq (keys_of events)
rising-distinct [] rise = none-distinct
rising-distinct (p ∷ rest) rise = IsDistinct-cons nat_eq p.0 (keys_of rest) (others p rest rise.0) (rising-distinct rest rise.1)

-- nor have those events in another order
pub permuted-distinct : (ps qs : List (ℕ × Event)) → IsPermutation ps qs → IsRising is_earlier qs → IsDistinct nat_eq (keys_of ps)
permuted-distinct ps qs moved rise =
    IsDistinct-IsPermutation nat_eq (λ n m. grind (arith, nat_tests)) (keys_of qs) (keys_of ps)
    (IsPermutation-map (λ (p : ℕ × Event). p.0) qs ps (IsPermutation-sym ps qs moved)) (rising-distinct qs rise)

-- an element of a list is one of the list in another order
pub in-permuted : {X : Type 0} (xs ys : List X) (z : X) → IsPermutation xs ys → IsIn z xs → IsIn z ys
in-permuted xs ys z moved here = in-contained ys z (Contains-permutation xs ys z moved (contained xs z here))

-- events in another order come by number as they were
pub permuted-by_number : (ps qs : List (ℕ × Event)) → IsPermutation ps qs → IsRising is_earlier qs → by_number ps ≡ qs
permuted-by_number ps qs moved rise =
    sym (sorted-is is_earlier earlier-strict ps qs (apart-by-number ps (permuted-distinct ps qs moved rise)) rise
    (λ z here. in-permuted ps qs z moved here) (λ z here. in-permuted qs ps z (IsPermutation-sym ps qs moved) here))

and-true : (a b : Bool) → (a && b) ≡ true → (a ≡ true) × (b ≡ true)
and-true true b h = (refl, h)
and-true false b h = absurd (cc)

-- what all of a list pass, each of its elements passes
pub all-in : {X : Type 0} (test : X → Bool) (xs : List X) (z : X) → list_all test xs ≡ true → IsIn z xs → test z ≡ true
all-in test [] z all here = absurd here
all-in test (x ∷ xs) z all (inl is) = ap test is ∙ (and-true (test x) (list_all test xs) all).0
all-in test (x ∷ xs) z all (inr there) = all-in test xs z (and-true (test x) (list_all test xs) all).1 there

-- and the other way
pub in-all : {X : Type 0} (test : X → Bool) (xs : List X) → ((z : X) → IsIn z xs → test z ≡ true) → list_all test xs ≡ true
in-all test [] each = refl
in-all test (x ∷ xs) each = rw (each x (inl refl)) (in-all test xs (λ z here. each z (inr here)))

-- what all of a list pass they pass in another order
pub all-permuted : {X : Type 0} (test : X → Bool) (xs ys : List X) → IsPermutation xs ys → list_all test ys ≡ true → list_all test xs ≡ true
all-permuted test xs ys moved all = in-all test xs (λ z here. all-in test ys z all (in-permuted xs ys z moved here))
