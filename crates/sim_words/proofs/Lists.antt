-- Names among others, and lists of error kinds.
use Rattle.std.proofs.Common.{◌≡◌, ℕ, ◌||◌, ◌&&◌, List, [], ◌∷◌, Bool, true, false, refl}
use Rattle.std.specs.Prelude.{bytes_eq}
use Rattle.std.proofs.lemmas.Slice.Eq.{bytes_eq-Decides}
use Rattle.clap.specs.Kinds.{Kinds, or_else}

-- ---- texts

pub same-text : (a b : List ℕ) → bytes_eq a b ≡ true → a ≡ b
same-text a b e = (bytes_eq-Decides a b).0 e

pub text-same : (a : List ℕ) → bytes_eq a a ≡ true
text-same a = (bytes_eq-Decides a a).1 refl

-- ---- tests

pub or-false : (b : Bool) → (b || false) ≡ b
or-false true = refl
or-false false = refl

pub or-true : (b : Bool) → (b || true) ≡ true
or-true true = refl
or-true false = refl

pub or-swap : (a b : Bool) → (a || b) ≡ (b || a)
or-swap true true = refl
or-swap true false = refl
or-swap false true = refl
or-swap false false = refl

pub or-three : (a b c : Bool) → (a || (b || c)) ≡ (a || b || c)
or-three true b c = refl
or-three false b c = refl

pub and-false : (b : Bool) → (b && false) ≡ false
and-false true = refl
and-false false = refl

-- ---- kinds

-- there is one
abbrev pub Fails : Kinds → Type 0
Fails [] = ⊥
Fails (k ∷ ks) = Unit {0}

pub fails-first : (first second : Kinds) → Fails first → Fails (or_else first second)
fails-first [] second e = absurd e
fails-first (k ∷ ks) second e = tt

pub fails-second : (first second : Kinds) → Fails second → Fails (or_else first second)
fails-second [] second e = e
fails-second (k ∷ ks) second e = tt

pub or-none : (kinds : Kinds) → or_else kinds [] ≡ kinds
or-none [] = refl
or-none (k ∷ ks) = refl
