-- Signs before what the canonical text puts behind them.
use Rattle.std.proofs.Common.{◌≡◌, ℕ, false, List, [], ◌∷◌, ◌++◌, Some, refl, sym, subst, nat_eq, append_assoc}
use Rattle.kern_lexer.specs.Bytes.{Bytes, space}
use Rattle.kern_lexer.specs.Signs.{sign_at, sign_text}
use Rattle.kern_lexer.specs.Symbols.{Symbol, sign}
use Rattle.kern_lexer.specs.declared.token.Sign.{Sign}
use Rattle.kern_lexer.specs.declared.token.Sign.TheVariants as S
use Rattle.kern_canonical.proofs.Words.{Words, symbol-then, space-then}

-- any sign before a space
sign-before_space : (s : Sign) (rest : Bytes) → sign_at (sign_text s ++ space ∷ rest) ≡ Some s
sign-before_space S.Comma rest = refl
sign-before_space _ rest = refl

-- a minus before what doesn't make a longer sign of it
pub minus-before_operand : (b : ℕ) (rest : Bytes) → nat_eq 61 b ≡ false → nat_eq 62 b ≡ false
    → sign_at (sign_text S.Minus ++ b ∷ rest) ≡ Some S.Minus
minus-before_operand b rest no_assign no_arrow = rw (no_assign, no_arrow) refl

-- a sign between spaces
spaced-then : (s : Sign) (code : Bytes) (symbols : List Symbol) → Words code symbols
    → Words (space ∷ (sign_text s ++ space ∷ code)) (sign s ∷ symbols)
spaced-then s code symbols w =
    space-then (sign_text s ++ space ∷ code) (sign s ∷ symbols)
    (symbol-then (sign s) (space ∷ code) symbols tt (sign-before_space s code) (space-then code symbols w))

-- a sign with its spaces, as it is printed
pub operator-then : (s : Sign) (text code : Bytes) (symbols : List Symbol) → text ≡ space ∷ (sign_text s ++ space ∷ [])
    → Words code symbols → Words (text ++ code) (sign s ∷ symbols)
operator-then s text code symbols is w =
    subst (λ t. Words (t ++ code) (sign s ∷ symbols)) (sym is)
    (subst (λ t. Words (space ∷ t) (sign s ∷ symbols)) (sym (append_assoc (sign_text s) (space ∷ []) code)) (spaced-then s code symbols w))
