-- Lemmas on the longest sign.
use Rattle.std.proofs.Common.{◌≡◌, ℕ, zero, suc, ◌≤◌, ◌∙◌, Bool, true, false, List, [], ◌∷◌, length, Some, None, refl, sym, subst, nat_le, nat_eq, ◌&&◌, arith}
use Rattle.std.specs.Prelude.{slice_get}
use Rattle.std.specs.List.{find, list_all, starts_with}
use Rattle.std.proofs.lemmas.Bool.{leb-true, and_parts}
use Rattle.kern_lexer.specs.Bytes.{Bytes}
use Rattle.kern_lexer.specs.Signs.{sign_at, sign_text, signs}
use Rattle.kern_lexer.specs.declared.token.Sign.{Sign}
use Rattle.kern_lexer.specs.declared.token.Sign.TheVariants as S
use Rattle.kern_lexer.proofs.FrontLemmas.{found-passes}

-- whether no later sign is longer
abbrev is_falling : List Sign → Bool
is_falling [] = true
is_falling (s ∷ later) = list_all (λ t. nat_le (length (sign_text t)) (length (sign_text s))) later && is_falling later

-- what all pass, each passes
all-at : (p : Sign → Bool) (list : List Sign) (n : ℕ) (t : Sign) → list_all p list ≡ true → slice_get list n ≡ Some t → p t ≡ true
all-at p [] n t all is = absurd cc
all-at p (s ∷ list) zero t all is = let same : s ≡ t = cc in subst (λ x. p x ≡ true) same ((and_parts (p s) (list_all p list) all).0)
all-at p (s ∷ list) (suc n) t all is = all-at p list n t (and_parts (p s) (list_all p list) all).1 is

-- the first sign that passes is no shorter than any other that does
first-longest : (p : Sign → Bool) (list : List Sign) (n : ℕ) (s t : Sign) → is_falling list ≡ true → slice_get list n ≡ Some t
    → p t ≡ true → find p list ≡ Some s → length (sign_text t) ≤ length (sign_text s)
first-longest p [] n s t falling is passes found = absurd cc
first-longest p (x ∷ list) n s t falling is passes found = at_head (p x) refl n is (λ m there later. first-longest p list m s t parts.1 there passes later)
  where
    parts : (list_all (λ y. nat_le (length (sign_text y)) (length (sign_text x))) list ≡ true) × (is_falling list ≡ true)
    parts = and_parts (list_all (λ y. nat_le (length (sign_text y)) (length (sign_text x))) list) (is_falling list) falling

    at_head : (b : Bool) → p x ≡ b → (n : ℕ) → slice_get (x ∷ list) n ≡ Some t
        → ((m : ℕ) → slice_get list m ≡ Some t → find p list ≡ Some s → length (sign_text t) ≤ length (sign_text s))
        → length (sign_text t) ≤ length (sign_text s)
    at_head true here zero is later =
        let first : find p (x ∷ list) ≡ Some x = rw here refl in
        let same : x ≡ s = cc in
        let one : x ≡ t = cc in
        subst (λ y. length (sign_text y) ≤ length (sign_text s)) one (subst (λ y. length (sign_text x) ≤ length (sign_text y)) same (omega arith))
    at_head true here (suc m) is later =
        let first : find p (x ∷ list) ≡ Some x = rw here refl in
        let same : x ≡ s = cc in
        subst (λ y. length (sign_text t) ≤ length (sign_text y)) same (leb-true (length (sign_text t)) (length (sign_text x)) (all-at (λ y. nat_le (length (sign_text y)) (length (sign_text x))) list m t parts.0 is))
    at_head false here zero is later = absurd (let one : x ≡ t = cc in cc)
    at_head false here (suc m) is later =
        let next : find p (x ∷ list) ≡ find p list = rw here refl in
        later m is (sym next ∙ found)

-- where none is found, none passes
none-passes : (p : Sign → Bool) (list : List Sign) (n : ℕ) (t : Sign) → find p list ≡ None → slice_get list n ≡ Some t → p t ≡ false
none-passes p [] n t none is = absurd cc
none-passes p (x ∷ list) n t none is = at_head (p x) refl n is (λ m there later. none-passes p list m t later there)
  where
    at_head : (b : Bool) → p x ≡ b → (n : ℕ) → slice_get (x ∷ list) n ≡ Some t
        → ((m : ℕ) → slice_get list m ≡ Some t → find p list ≡ None → p t ≡ false) → p t ≡ false
    at_head true here n is later = absurd (let first : find p (x ∷ list) ≡ Some x = rw here refl in cc)
    at_head false here zero is later = let one : x ≡ t = cc in subst (λ y. p y ≡ false) one here
    at_head false here (suc m) is later =
        let next : find p (x ∷ list) ≡ find p list = rw here refl in
        later m is (sym next ∙ none)

-- where a sign stands among all
abbrev place : Sign → ℕ
place S.AddAssign = 0
place S.SubtractAssign = 1
place S.Arrow = 2
place S.Equal = 3
place S.NotEqual = 4
place S.LessEqual = 5
place S.GreaterEqual = 6
place S.DoubleSlash = 7
place S.ShiftLeft = 8
place S.ShiftRight = 9
place S.OpenParenthesis = 10
place S.CloseParenthesis = 11
place S.OpenBracket = 12
place S.CloseBracket = 13
place S.Comma = 14
place S.Colon = 15
place S.Dot = 16
place S.At = 17
place S.Assign = 18
place S.Less = 19
place S.Greater = 20
place S.Plus = 21
place S.Minus = 22
place S.Star = 23
place S.Percent = 24
place S.Ampersand = 25
place S.Caret = 26
place S.Tilde = 27
place S.Bar = 28

there : (s : Sign) → slice_get signs (place s) ≡ Some s
there S.AddAssign = refl
there _ = refl

-- the sign that is read is one that the bytes begin with
pub sign-begins : (bytes : Bytes) (s : Sign) → sign_at bytes ≡ Some s → starts_with nat_eq bytes (sign_text s) ≡ true
sign-begins bytes s found = found-passes (λ s. starts_with nat_eq bytes (sign_text s)) signs s found

-- and no longer one is
pub sign-longest : (bytes : Bytes) (s t : Sign) → sign_at bytes ≡ Some s → starts_with nat_eq bytes (sign_text t) ≡ true
    → length (sign_text t) ≤ length (sign_text s)
sign-longest bytes s t found begins = first-longest (λ s. starts_with nat_eq bytes (sign_text s)) signs (place t) s t refl (there t) begins found

-- where none is read they begin with none
pub sign-none : (bytes : Bytes) (t : Sign) → sign_at bytes ≡ None → starts_with nat_eq bytes (sign_text t) ≡ false
sign-none bytes t none = none-passes (λ s. starts_with nat_eq bytes (sign_text s)) signs (place t) t none (there t)
