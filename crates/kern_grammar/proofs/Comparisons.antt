-- The level of comparisons reads its phrases where the next tighter level reads its own.
use Rattle.std.proofs.Common.{◌≡◌, ℕ, true, false, List, [], ◌∷◌, refl, sym, ◌∙◌, ap, subst, arith, inl, inr}
use Rattle.std.proofs.lemmas.Bool.{lt-ltb, ltb-true}
use Rattle.std.proofs.lemmas.Bool.Decides.{eqb_tells}
use Rattle.std.specs.Prelude.{Option, Some, None}
use Rattle.kern_lexer.specs.Symbols.{Symbol, key, sign}
use Rattle.kern_lexer.specs.declared.token.Key.TheVariants as K
use Rattle.kern_lexer.specs.declared.token.Sign.TheVariants as S
use Rattle.kern_syntax.specs.declared.expression.Comparison.{Comparison}
use Rattle.kern_syntax.specs.declared.expression.Comparison.TheVariants as C
use Rattle.kern_grammar.specs.Expressions.{comparison_sign}
use Rattle.kern_grammar.specs.Operators.{stops, stops_at, continues_at, comparison_of}
use Rattle.kern_grammar.specs.Reading.{first_comparison}
use Rattle.kern_grammar.proofs.Joiners.{some_same}
use Rattle.kern_grammar.proofs.Phrased.{SameFirst}

pub comparison_of-sign : (op : Comparison) → comparison_of (sign (comparison_sign op)) ≡ Some op
comparison_of-sign C.Equal = refl
comparison_of-sign C.NotEqual = refl
comparison_of-sign C.Less = refl
comparison_of-sign C.LessEqual = refl
comparison_of-sign C.Greater = refl
comparison_of-sign C.GreaterEqual = refl

continues_at-comparison : (op : Comparison) → continues_at (sign (comparison_sign op)) ≡ Some 8
continues_at-comparison C.Equal = refl
continues_at-comparison C.NotEqual = refl
continues_at-comparison C.Less = refl
continues_at-comparison C.LessEqual = refl
continues_at-comparison C.Greater = refl
continues_at-comparison C.GreaterEqual = refl

comparison_of-back : (s : Symbol) (op : Comparison) → comparison_of s ≡ Some op → s ≡ sign (comparison_sign op)
comparison_of-back (sign S.Equal) op e = ap (λ x. sign (comparison_sign x)) (some_same C.Equal op e)
comparison_of-back (sign S.NotEqual) op e = ap (λ x. sign (comparison_sign x)) (some_same C.NotEqual op e)
comparison_of-back (sign S.Less) op e = ap (λ x. sign (comparison_sign x)) (some_same C.Less op e)
comparison_of-back (sign S.LessEqual) op e = ap (λ x. sign (comparison_sign x)) (some_same C.LessEqual op e)
comparison_of-back (sign S.Greater) op e = ap (λ x. sign (comparison_sign x)) (some_same C.Greater op e)
comparison_of-back (sign S.GreaterEqual) op e = ap (λ x. sign (comparison_sign x)) (some_same C.GreaterEqual op e)
comparison_of-back s op e = absurd cc

-- a symbol that goes on at the level of comparisons is one
at_eight : (s : Symbol) → continues_at s ≡ Some 8 → (op : Comparison) × (comparison_of s ≡ Some op)
at_eight (sign S.Equal) e = (C.Equal, refl)
at_eight (sign S.NotEqual) e = (C.NotEqual, refl)
at_eight (sign S.Less) e = (C.Less, refl)
at_eight (sign S.LessEqual) e = (C.LessEqual, refl)
at_eight (sign S.Greater) e = (C.Greater, refl)
at_eight (sign S.GreaterEqual) e = (C.GreaterEqual, refl)
at_eight (key K.And) e = absurd (omega (arith, some_same 10 8 e))
at_eight (key K.Or) e = absurd (omega (arith, some_same 11 8 e))
at_eight (sign S.Plus) e = absurd (omega (arith, some_same 3 8 e))
at_eight (sign S.Minus) e = absurd (omega (arith, some_same 3 8 e))
at_eight (sign S.Star) e = absurd (omega (arith, some_same 2 8 e))
at_eight (sign S.DoubleSlash) e = absurd (omega (arith, some_same 2 8 e))
at_eight (sign S.Percent) e = absurd (omega (arith, some_same 2 8 e))
at_eight (sign S.ShiftLeft) e = absurd (omega (arith, some_same 4 8 e))
at_eight (sign S.ShiftRight) e = absurd (omega (arith, some_same 4 8 e))
at_eight (sign S.Ampersand) e = absurd (omega (arith, some_same 5 8 e))
at_eight (sign S.Caret) e = absurd (omega (arith, some_same 6 8 e))
at_eight (sign S.Bar) e = absurd (omega (arith, some_same 7 8 e))
at_eight (sign S.OpenParenthesis) e = absurd (omega (arith, some_same 0 8 e))
at_eight (sign S.OpenBracket) e = absurd (omega (arith, some_same 0 8 e))
at_eight (sign S.Dot) e = absurd (omega (arith, some_same 0 8 e))
at_eight s e = absurd cc

-- what the first comparison says of the symbols
pub record FirstComparison (symbols : List Symbol) (op : Comparison) : Type 0 where
  pub rest : List Symbol
  pub whole : symbols ≡ sign (comparison_sign op) ∷ rest

pub first_comparison-some : (symbols : List Symbol) (op : Comparison) → first_comparison symbols ≡ Some op → FirstComparison symbols op
first_comparison-some [] op e = absurd cc
first_comparison-some (s ∷ rest) op e = record { rest = rest; whole = ap (λ x. x ∷ rest) (comparison_of-back s op e) }

pub stops-comparison : (op : Comparison) (rest : List Symbol) → stops 7 (sign (comparison_sign op) ∷ rest) ≡ true
stops-comparison op rest = ap (stops_at 7) (continues_at-comparison op)

-- where a comparison stops, no comparison follows
none_of : (s : Symbol) (rest : List Symbol) (o : Option Comparison) → comparison_of s ≡ o → stops 8 (s ∷ rest) ≡ true → o ≡ None
none_of s rest None e h = refl
none_of s rest (Some op) e h =
    let no : false ≡ true = sym (ap (stops_at 8) (ap continues_at (comparison_of-back s op e) ∙ continues_at-comparison op)) ∙ h in
    absurd cc

pub first_comparison-none : (symbols : List Symbol) → stops 8 symbols ≡ true → first_comparison symbols ≡ None
first_comparison-none [] h = refl
first_comparison-none (s ∷ rest) h = none_of s rest (comparison_of s) refl h

-- where an operand stops and no comparison follows, a comparison stops
stops_on : (s : Symbol) (o : Option ℕ) → continues_at s ≡ o → stops_at 7 o ≡ true → comparison_of s ≡ None → stops_at 8 o ≡ true
stops_on s None e h n = refl
stops_on s (Some c) e h n = elim (eqb_tells c 8) [
  | inl t ↦
      let found = at_eight s (e ∙ ap (λ x. Some x) t.1) in
      let no : None ≡ Some found.0 = sym n ∙ found.1 in absurd cc
  | inr t ↦ lt-ltb 8 c (omega (arith, ltb-true 7 c h, t.1))
]

pub stops-eight : (symbols : List Symbol) → stops 7 symbols ≡ true → first_comparison symbols ≡ None → stops 8 symbols ≡ true
stops-eight [] h n = refl
stops-eight (s ∷ rest) h n = stops_on s (continues_at s) refl h n

pub first_comparison-same : (a b : List Symbol) (op : Comparison) → SameFirst a b → first_comparison a ≡ Some op → first_comparison b ≡ Some op
first_comparison-same (s ∷ a) (t ∷ b) op e h = subst (λ x. first_comparison (x ∷ b) ≡ Some op) e h
first_comparison-same [] b op e h = absurd e
first_comparison-same (s ∷ a) [] op e h = absurd e
