-- The least number that passes a test, and histories with one entry more.
use Rattle.std.proofs.Common.{◌≡◌, ℕ, ◌+◌, ◌<◌, ◌≤◌, zero, suc, Bool, true, false, List, [], ◌∷◌, ◌++◌, refl, ap, sym, ◌∙◌, arith, subst, append_assoc, append-nil}
use Rattle.std.specs.Prelude.{◌⊎◌, Result, Ok, Err, OnErr, OnOk}
use Rattle.std.specs.Result.{is_err}
use Rattle.std.proofs.Common.{inl, inr}
use Rattle.rtio_core.specs.declared.data.Config.{Config}
use Rattle.rtio_core.specs.declared.data.Entry.{Entry}
use Rattle.rtio_core.specs.Lawful.{MayFollow, IsLawfulAfter, IsActFitting, AreFitting}
use Rattle.rtio_core.specs.Top.{least_from}

-- the search stays between its bounds
pub least_from-above : (test : ℕ → Bool) (from more : ℕ) → from ≤ least_from test from more
least_from-above test from zero = omega arith
least_from-above test from (suc more) =
    let next : from + 1 ≤ least_from test (from + 1) more = least_from-above test (from + 1) more in
    elim (test from) as (λ b. from ≤ elim b [ true ↦ from | false ↦ least_from test (from + 1) more ]) [ true ↦ omega arith | false ↦ omega (arith, next) ]

passes-at : (test : ℕ → Bool) (from more found : ℕ) (b : Bool) → test from ≡ b → (test found ≡ true) ⊎ (found ≡ from + 1 + more) → (test (elim b [ true ↦ from | false ↦ found ]) ≡ true) ⊎ (elim b [ true ↦ from | false ↦ found ] ≡ from + suc more)
passes-at test from more found true e next = inl e
passes-at test from more found false e (inl h) = inl h
passes-at test from more found false e (inr h) = inr (omega (arith, h))

-- it stops at a number that passes, or at its end
pub least_from-passes : (test : ℕ → Bool) (from more : ℕ) → (test (least_from test from more) ≡ true) ⊎ (least_from test from more ≡ from + more)
least_from-passes test from zero = inr (omega arith)
least_from-passes test from (suc more) = passes-at test from more (least_from test (from + 1) more) (test from) refl (least_from-passes test (from + 1) more)

before-at : (test : ℕ → Bool) (from found m : ℕ) (b : Bool) → test from ≡ b → (from + 1 ≤ m → m < found → test m ≡ false) → from ≤ m → m < elim b [ true ↦ from | false ↦ found ] → test m ≡ false
before-at test from found m true e next low high = absurd (omega (arith, low, high))
before-at test from found m false e next low high = grind (arith, e, next, low, high)

-- no number before it passes
pub least_from-before : (test : ℕ → Bool) (from more m : ℕ) → from ≤ m → m < least_from test from more → test m ≡ false
least_from-before test from zero m low high = absurd (omega (arith, low, high))
least_from-before test from (suc more) m low high =
    before-at test from (least_from test (from + 1) more) m (test from) refl (least_from-before test (from + 1) more m) low high

-- a history stays lawful by an entry that may follow it
pub IsLawfulAfter-push : (config : Config) (before history : List Entry) (entry : Entry) → IsLawfulAfter config before history → MayFollow config (before ++ history) entry.chair entry.act → IsLawfulAfter config before (history ++ entry ∷ [])
IsLawfulAfter-push config before [] entry lawful may = let P : List Entry → Type 0 = λ h. MayFollow config h entry.chair entry.act in (subst P (append-nil before) may, tt)
IsLawfulAfter-push config before (e ∷ rest) entry lawful may =
    let P : List Entry → Type 0 = λ h. MayFollow config h entry.chair entry.act in
    (lawful.0, IsLawfulAfter-push config (before ++ e ∷ []) rest entry lawful.1 (subst P (sym (append_assoc before (e ∷ []) rest)) may))

-- and each of its beginnings is lawful
pub IsLawfulAfter-front : (config : Config) (before front back : List Entry) → IsLawfulAfter config before (front ++ back) → IsLawfulAfter config before front
IsLawfulAfter-front config before [] back lawful = tt
IsLawfulAfter-front config before (e ∷ front) back lawful = (lawful.0, IsLawfulAfter-front config (before ++ e ∷ []) front back lawful.1)

-- the acts of a history fit as they did, and the new one does
pub AreFitting-push : (history : List Entry) (entry : Entry) → AreFitting history → IsActFitting entry.act → AreFitting (history ++ entry ∷ [])
AreFitting-push [] entry fitting new = (new, tt)
AreFitting-push (e ∷ rest) entry fitting new = (fitting.0, AreFitting-push rest entry fitting.1 new)

-- a list that stands for another has one entry more behind it
pub pushed-onto : {X : Type 0} (pushed reserved old : List X) (x : X) → pushed ≡ reserved ++ x ∷ [] → reserved ≡ old → pushed ≡ old ++ x ∷ []
pushed-onto pushed reserved old x is same = is ∙ ap (λ xs. xs ++ x ∷ []) same

-- what holds where a call succeeds, where it did
pub from-ok : {X E : Type 0} (r : Result X E) (P : Type 0) → is_err r ≡ false → OnOk r P → P
from-ok (Ok x) P fine h = h
from-ok (Err e) P fine h = absurd (cc)

-- and what holds where it fails
pub from-err : {X E : Type 0} (r : Result X E) (P : Type 0) → is_err r ≡ true → OnErr r P → P
from-err (Ok x) P fails h = absurd (cc)
from-err (Err e) P fails h = h
