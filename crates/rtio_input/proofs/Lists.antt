-- Lists whose elements pass a test.
use Rattle.std.proofs.Common.{◌≡◌, Bool, true, false, List, [], ◌∷◌, ◌++◌, map, refl, ap, ◌∙◌, cond}
use Rattle.std.specs.Prelude.{filter, fold, ◌&&◌}
use Rattle.std.specs.List.{list_all}

pub left : (a b : Bool) → (a && b) ≡ true → a ≡ true
left true b h = refl
left false b h = absurd (cc)

pub right : (a b : Bool) → (a && b) ≡ true → b ≡ true
right true b h = h
right false b h = absurd (cc)

pub join : (a b : Bool) → a ≡ true → b ≡ true → (a && b) ≡ true
join a b h k = rw (h, k) refl

-- two tests that agree on the elements keep the same of them
pub filter-same : {X : Type 0} (test p q : X → Bool) (xs : List X) → list_all test xs ≡ true → ((x : X) → test x ≡ true → p x ≡ q x) → filter p xs ≡ filter q xs
filter-same test p q [] all same = refl
filter-same test p q (x ∷ xs) all same =
    ap (λ (b : Bool). cond b (x ∷ filter p xs) (filter p xs)) (same x (left (test x) (list_all test xs) all))
    ∙ ap (λ ys. cond (q x) (x ∷ ys) ys) (filter-same test p q xs (right (test x) (list_all test xs) all) same)

-- where no element passes, none is kept
pub filter-none : {X : Type 0} (test p : X → Bool) (xs : List X) → list_all test xs ≡ true → ((x : X) → test x ≡ true → p x ≡ false) → filter p xs ≡ []
filter-none test p [] all none = refl
filter-none test p (x ∷ xs) all none =
    ap (λ (b : Bool). cond b (x ∷ filter p xs) (filter p xs)) (none x (left (test x) (list_all test xs) all))
    ∙ filter-none test p xs (right (test x) (list_all test xs) all) none

-- where each element passes, all are kept
pub filter-whole : {X : Type 0} (test p : X → Bool) (xs : List X) → list_all test xs ≡ true → ((x : X) → test x ≡ true → p x ≡ true) → filter p xs ≡ xs
filter-whole test p [] all each = refl
filter-whole test p (x ∷ xs) all each =
    ap (λ (b : Bool). cond b (x ∷ filter p xs) (filter p xs)) (each x (left (test x) (list_all test xs) all))
    ∙ ap (λ ys. x ∷ ys) (filter-whole test p xs (right (test x) (list_all test xs) all) each)

pub all-weaker : {X : Type 0} (test weaker : X → Bool) (xs : List X) → list_all test xs ≡ true → ((x : X) → test x ≡ true → weaker x ≡ true) → list_all weaker xs ≡ true
all-weaker test weaker [] all each = refl
all-weaker test weaker (x ∷ xs) all each =
    join (weaker x) (list_all weaker xs) (each x (left (test x) (list_all test xs) all))
    (all-weaker test weaker xs (right (test x) (list_all test xs) all) each)

pub all-filter : {X : Type 0} (keep test : X → Bool) (xs : List X) → list_all test xs ≡ true → list_all test (filter keep xs) ≡ true
all-filter keep test [] all = refl
all-filter keep test (x ∷ xs) all =
    all-filter-at (keep x) (left (test x) (list_all test xs) all) (all-filter keep test xs (right (test x) (list_all test xs) all))
  where
    all-filter-at : (b : Bool) → test x ≡ true → list_all test (filter keep xs) ≡ true → list_all test (cond b (x ∷ filter keep xs) (filter keep xs)) ≡ true
    all-filter-at true passes ih = rw passes ih
    all-filter-at false passes ih = ih

-- what is kept passes
pub all-kept : {X : Type 0} (keep : X → Bool) (xs : List X) → list_all keep (filter keep xs) ≡ true
all-kept keep [] = refl
all-kept keep (x ∷ xs) = all-kept-at (keep x) refl (all-kept keep xs)
  where
    all-kept-at : (b : Bool) → keep x ≡ b → list_all keep (filter keep xs) ≡ true → list_all keep (cond b (x ∷ filter keep xs) (filter keep xs)) ≡ true
    all-kept-at true passes ih = rw passes ih
    all-kept-at false passes ih = ih

pub all-append : {X : Type 0} (test : X → Bool) (xs ys : List X) → list_all test xs ≡ true → list_all test ys ≡ true → list_all test (xs ++ ys) ≡ true
all-append test [] ys h k = k
all-append test (x ∷ xs) ys h k =
    join (test x) (list_all test (xs ++ ys)) (left (test x) (list_all test xs) h) (all-append test xs ys (right (test x) (list_all test xs) h) k)

-- a filter of a filter that it implies
pub filter-filter : {X : Type 0} (p q : X → Bool) (xs : List X) → ((x : X) → p x ≡ true → q x ≡ true) → filter p (filter q xs) ≡ filter p xs
filter-filter p q [] each = refl
filter-filter p q (x ∷ xs) each = filter-filter-at (q x) (p x) refl refl (filter-filter p q xs each)
  where
    filter-filter-at : (b c : Bool) → q x ≡ b → p x ≡ c → filter p (filter q xs) ≡ filter p xs → filter p (cond b (x ∷ filter q xs) (filter q xs)) ≡ cond c (x ∷ filter p xs) (filter p xs)
    filter-filter-at true true here passes ih = ap (λ (b : Bool). cond b (x ∷ filter p (filter q xs)) (filter p (filter q xs))) passes ∙ ap (λ ys. x ∷ ys) ih
    filter-filter-at true false here passes ih = ap (λ (b : Bool). cond b (x ∷ filter p (filter q xs)) (filter p (filter q xs))) passes ∙ ih
    filter-filter-at false true here passes ih = let yes : q x ≡ true = each x passes in absurd (cc)
    filter-filter-at false false here passes ih = ih

pub map-same : {X Y : Type 0} (test : X → Bool) (f g : X → Y) (xs : List X) → list_all test xs ≡ true → ((x : X) → test x ≡ true → f x ≡ g x) → map f xs ≡ map g xs
map-same test f g [] all same = refl
map-same test f g (x ∷ xs) all same =
    ap (λ y. y ∷ map f xs) (same x (left (test x) (list_all test xs) all))
    ∙ ap (λ ys. g x ∷ ys) (map-same test f g xs (right (test x) (list_all test xs) all) same)

pub fold-same : {X Y : Type 0} (test : X → Bool) (f g : Y → X → Y) (y : Y) (xs : List X) → list_all test xs ≡ true → ((y : Y) (x : X) → test x ≡ true → f y x ≡ g y x) → fold f y xs ≡ fold g y xs
fold-same test f g y [] all same = refl
fold-same test f g y (x ∷ xs) all same =
    ap (λ z. fold f z xs) (same y x (left (test x) (list_all test xs) all))
    ∙ fold-same test f g (g y x) xs (right (test x) (list_all test xs) all) same
