-- Two lists in one strict order with the same elements are the same list.
use Rattle.std.proofs.Common.{inl, inr, ◌≡◌, Bool, true, false, List, [], ◌∷◌, refl, ap, ◌∙◌, sym, cond}
use Rattle.std.specs.Prelude.{◌⊎◌}
use Rattle.sed_lanes.specs.Sorting.{inserted, sorted}

-- a strict order
pub record IsStrict {X : Type 0} (before : X → X → Bool) : Type 0 where
  pub chain : (x y z : X) → before x y ≡ true → before y z ≡ true → before x z ≡ true
  pub apart : (x : X) → before x x ≡ false

-- an element of a list
abbrev pub IsIn : {X : Type 0} → X → List X → Type 0
IsIn z [] = ⊥
IsIn z (x ∷ xs) = (z ≡ x) ⊎ IsIn z xs

-- x is before each
abbrev pub IsBeforeAll : {X : Type 0} → (X → X → Bool) → X → List X → Type 0
IsBeforeAll before x [] = Unit {0}
IsBeforeAll before x (y ∷ ys) = (before x y ≡ true) × IsBeforeAll before x ys

-- each is before those behind it
abbrev pub IsRising : {X : Type 0} → (X → X → Bool) → List X → Type 0
IsRising before [] = Unit {0}
IsRising before (x ∷ xs) = IsBeforeAll before x xs × IsRising before xs

-- the order tells x from each
abbrev pub IsToldFrom : {X : Type 0} → (X → X → Bool) → X → List X → Type 0
IsToldFrom before x [] = Unit {0}
IsToldFrom before x (y ∷ ys) = ((before x y ≡ true) ⊎ (before y x ≡ true)) × IsToldFrom before x ys

-- the order tells each two apart
abbrev pub AreApart : {X : Type 0} → (X → X → Bool) → List X → Type 0
AreApart before [] = Unit {0}
AreApart before (x ∷ xs) = IsToldFrom before x xs × AreApart before xs

before-in : {X : Type 0} (before : X → X → Bool) (x z : X) (ys : List X) → IsBeforeAll before x ys → IsIn z ys → before x z ≡ true
before-in before x z [] all here = absurd here
before-in before x z (y ∷ ys) all (inl is) = ap (before x) is ∙ all.0
before-in before x z (y ∷ ys) all (inr there) = before-in before x z ys all.1 there

never : {X : Type 0} (before : X → X → Bool) → IsStrict before → (x : X) → before x x ≡ true → ⊥
never before s x h = let no : true ≡ false = sym h ∙ s.apart x in absurd (cc)

-- two that are each before the other are none
never-both : {X : Type 0} (before : X → X → Bool) → IsStrict before → (x y : X) → before x y ≡ true → before y x ≡ true → ⊥
never-both before s x y xy yx = never before s x (s.chain x y x xy yx)

heads-same : {X : Type 0} (before : X → X → Bool) → IsStrict before → (x y : X) (xs ys : List X) → IsBeforeAll before x xs → IsBeforeAll before y ys → IsIn x (y ∷ ys) → IsIn y (x ∷ xs) → x ≡ y
heads-same before s x y xs ys x_first y_first (inl is) y_in = is
heads-same before s x y xs ys x_first y_first (inr x_in) (inl is) = sym is
heads-same before s x y xs ys x_first y_first (inr x_in) (inr y_in) =
    absurd (never-both before s x y (before-in before x y xs x_first y_in) (before-in before y x ys y_first x_in))

tail-in : {X : Type 0} (before : X → X → Bool) → IsStrict before → (x y z : X) (xs ys : List X) → x ≡ y → IsBeforeAll before x xs → IsIn z xs → IsIn z (y ∷ ys) → IsIn z ys
tail-in before s x y z xs ys same x_first z_in (inl is) =
    absurd (never before s x (ap (before x) (same ∙ sym is) ∙ before-in before x z xs x_first z_in))
tail-in before s x y z xs ys same x_first z_in (inr there) = there

-- lists in the order with the same elements are the same
pub rising-same : {X : Type 0} (before : X → X → Bool) → IsStrict before → (xs ys : List X) → IsRising before xs → IsRising before ys → ((z : X) → IsIn z xs → IsIn z ys) → ((z : X) → IsIn z ys → IsIn z xs) → xs ≡ ys
rising-same before s [] [] xs_rise ys_rise into back = refl
rising-same before s [] (y ∷ ys) xs_rise ys_rise into back = absurd (back y (inl refl))
rising-same before s (x ∷ xs) [] xs_rise ys_rise into back = absurd (into x (inl refl))
rising-same before s (x ∷ xs) (y ∷ ys) xs_rise ys_rise into back =
    let same : x ≡ y = heads-same before s x y xs ys xs_rise.0 ys_rise.0 (into x (inl refl)) (back y (inl refl)) in
    let rest : xs ≡ ys =
    rising-same before s xs ys xs_rise.1 ys_rise.1
    (λ z here. tail-in before s x y z xs ys same xs_rise.0 here (into z (inr here)))
    (λ z here. tail-in before s y x z ys xs (sym same) ys_rise.0 here (back z (inr here))) in
    ap (λ z. z ∷ xs) same ∙ ap (λ zs. y ∷ zs) rest

inserted-in : {X : Type 0} (before : X → X → Bool) (x z : X) (xs : List X) → IsIn z (inserted before x xs) → (z ≡ x) ⊎ IsIn z xs
inserted-in before x z [] here = here
inserted-in before x z (y ∷ ys) here = at-head (before y x) (inserted-in before x z ys) here
  where
    deeper : (z ≡ x) ⊎ IsIn z ys → (z ≡ x) ⊎ IsIn z (y ∷ ys)
    deeper (inl is) = inl is
    deeper (inr more) = inr (inr more)

    at-head : (b : Bool) → (IsIn z (inserted before x ys) → (z ≡ x) ⊎ IsIn z ys) → IsIn z (cond b (y ∷ inserted before x ys) (x ∷ y ∷ ys)) → (z ≡ x) ⊎ IsIn z (y ∷ ys)
    at-head true ih (inl is) = inr (inl is)
    at-head true ih (inr there) = deeper (ih there)
    at-head false ih (inl is) = inl is
    at-head false ih (inr there) = inr there

in-inserted : {X : Type 0} (before : X → X → Bool) (x z : X) (xs : List X) → (z ≡ x) ⊎ IsIn z xs → IsIn z (inserted before x xs)
in-inserted before x z [] here = here
in-inserted before x z (y ∷ ys) here = at-head (before y x) (in-inserted before x z ys) here
  where
    at-head : (b : Bool) → ((z ≡ x) ⊎ IsIn z ys → IsIn z (inserted before x ys)) → (z ≡ x) ⊎ IsIn z (y ∷ ys) → IsIn z (cond b (y ∷ inserted before x ys) (x ∷ y ∷ ys))
    at-head true ih (inl is) = inr (ih (inl is))
    at-head true ih (inr (inl is)) = inl is
    at-head true ih (inr (inr more)) = inr (ih (inr more))
    at-head false ih (inl is) = inl is
    at-head false ih (inr there) = inr there

-- a sorted list has the elements of the list
pub sorted-in : {X : Type 0} (before : X → X → Bool) (z : X) (xs : List X) → IsIn z (sorted before xs) → IsIn z xs
sorted-in before z [] here = here
sorted-in before z (x ∷ xs) here = deeper (sorted-in before z xs) (inserted-in before x z (sorted before xs) here)
  where
    deeper : (IsIn z (sorted before xs) → IsIn z xs) → (z ≡ x) ⊎ IsIn z (sorted before xs) → IsIn z (x ∷ xs)
    deeper ih (inl is) = inl is
    deeper ih (inr there) = inr (ih there)

pub in-sorted : {X : Type 0} (before : X → X → Bool) (z : X) (xs : List X) → IsIn z xs → IsIn z (sorted before xs)
in-sorted before z [] here = here
in-sorted before z (x ∷ xs) (inl is) = in-inserted before x z (sorted before xs) (inl is)
in-sorted before z (x ∷ xs) (inr there) = in-inserted before x z (sorted before xs) (inr (in-sorted before z xs there))

before-inserted : {X : Type 0} (before : X → X → Bool) (w x : X) (xs : List X) → before w x ≡ true → IsBeforeAll before w xs → IsBeforeAll before w (inserted before x xs)
before-inserted before w x [] one all = (one, tt)
before-inserted before w x (y ∷ ys) one all =
    elim (before y x) as (λ b. IsBeforeAll before w (cond b (y ∷ inserted before x ys) (x ∷ y ∷ ys)))
    [ true ↦ (all.0, before-inserted before w x ys one all.1) | false ↦ (one, all) ]

before-chain : {X : Type 0} (before : X → X → Bool) → IsStrict before → (w x : X) (ys : List X) → before w x ≡ true → IsBeforeAll before x ys → IsBeforeAll before w ys
before-chain before s w x [] one all = tt
before-chain before s w x (y ∷ ys) one all = (s.chain w x y one all.0, before-chain before s w x ys one all.1)

inserted-rising : {X : Type 0} (before : X → X → Bool) → IsStrict before → (x : X) (xs : List X) → IsToldFrom before x xs → IsRising before xs → IsRising before (inserted before x xs)
inserted-rising before s x [] told rise = (tt, tt)
inserted-rising before s x (y ∷ ys) told rise = at-head (before y x) refl told.0 (inserted-rising before s x ys told.1 rise.1)
  where
    at-head : (b : Bool) → before y x ≡ b → (before x y ≡ true) ⊎ (before y x ≡ true) → IsRising before (inserted before x ys) → IsRising before (cond b (y ∷ inserted before x ys) (x ∷ y ∷ ys))
    at-head true is apart ih = (before-inserted before y x ys is rise.0, ih)
    at-head false is (inl first) ih = ((first, before-chain before s x y ys first rise.0), rise)
    at-head false is (inr other) ih = let no : true ≡ false = sym other ∙ is in absurd (cc)

told-inserted : {X : Type 0} (before : X → X → Bool) (w x : X) (xs : List X) → (before w x ≡ true) ⊎ (before x w ≡ true) → IsToldFrom before w xs → IsToldFrom before w (inserted before x xs)
told-inserted before w x [] one all = (one, tt)
told-inserted before w x (y ∷ ys) one all =
    elim (before y x) as (λ b. IsToldFrom before w (cond b (y ∷ inserted before x ys) (x ∷ y ∷ ys)))
    [ true ↦ (all.0, told-inserted before w x ys one all.1) | false ↦ (one, all) ]

told-sorted : {X : Type 0} (before : X → X → Bool) (w : X) (xs : List X) → IsToldFrom before w xs → IsToldFrom before w (sorted before xs)
told-sorted before w [] all = tt
told-sorted before w (x ∷ xs) all = told-inserted before w x (sorted before xs) all.0 (told-sorted before w xs all.1)

-- a list whose elements the order tells apart is rising when it is sorted
pub sorted-rising : {X : Type 0} (before : X → X → Bool) → IsStrict before → (xs : List X) → AreApart before xs → IsRising before (sorted before xs)
sorted-rising before s [] apart = tt
sorted-rising before s (x ∷ xs) apart = inserted-rising before s x (sorted before xs) (told-sorted before x xs apart.0) (sorted-rising before s xs apart.1)

-- a rising list with the elements of another is that one sorted
pub sorted-is : {X : Type 0} (before : X → X → Bool) → IsStrict before → (xs ys : List X) → AreApart before xs → IsRising before ys → ((z : X) → IsIn z xs → IsIn z ys) → ((z : X) → IsIn z ys → IsIn z xs) → ys ≡ sorted before xs
sorted-is before s xs ys apart rise into back =
    rising-same before s ys (sorted before xs) rise (sorted-rising before s xs apart)
    (λ z here. in-sorted before z xs (back z here)) (λ z here. into z (sorted-in before z xs here))
