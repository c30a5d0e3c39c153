-- What holds of the operators that may be repeated in a row.
use Rattle.std.proofs.Common.{◌≡◌, ◌≢◌, ℕ, suc, ◌<◌, true, false, List, [], ◌∷◌, refl, sym, ◌∙◌, ap, subst, arith, eqb, eq-eqb, ◌⊎◌, inl, inr}
use Rattle.std.proofs.lemmas.Bool.{lt-ltb, ltb-true, ne_eqb}
use Rattle.std.proofs.lemmas.Bool.Decides.{eqb_tells}
use Rattle.std.specs.Prelude.{Option, Some, None, cond, nat_lt}
use Rattle.kern_lexer.specs.Symbols.{Symbol, key, sign}
use Rattle.kern_lexer.specs.declared.token.Key.TheVariants as K
use Rattle.kern_lexer.specs.declared.token.Sign.TheVariants as S
use Rattle.kern_syntax.specs.declared.expression.BinaryOperator.TheVariants as B
use Rattle.kern_grammar.specs.declared.joiner.Joiner.{Joiner}
use Rattle.kern_grammar.specs.declared.joiner.Joiner.TheVariants.{Binary, And, Or}
use Rattle.kern_grammar.specs.Operators.{joiner_level, joiner_symbol, joiner_of, continues_at, stops, stops_at, if_of_level, first_joiner}
use Rattle.kern_grammar.specs.Reading.{rows, kind_of}

pub joiner_of-symbol : (j : Joiner) → joiner_of (joiner_symbol j) ≡ Some j
joiner_of-symbol (Binary B.Add) = refl
joiner_of-symbol (Binary B.Subtract) = refl
joiner_of-symbol (Binary B.Multiply) = refl
joiner_of-symbol (Binary B.Divide) = refl
joiner_of-symbol (Binary B.Remainder) = refl
joiner_of-symbol (Binary B.ShiftLeft) = refl
joiner_of-symbol (Binary B.ShiftRight) = refl
joiner_of-symbol (Binary B.BitAnd) = refl
joiner_of-symbol (Binary B.BitXor) = refl
joiner_of-symbol (Binary B.BitOr) = refl
joiner_of-symbol And = refl
joiner_of-symbol Or = refl

pub continues_at-joiner : (j : Joiner) → continues_at (joiner_symbol j) ≡ Some (joiner_level j)
continues_at-joiner (Binary B.Add) = refl
continues_at-joiner (Binary B.Subtract) = refl
continues_at-joiner (Binary B.Multiply) = refl
continues_at-joiner (Binary B.Divide) = refl
continues_at-joiner (Binary B.Remainder) = refl
continues_at-joiner (Binary B.ShiftLeft) = refl
continues_at-joiner (Binary B.ShiftRight) = refl
continues_at-joiner (Binary B.BitAnd) = refl
continues_at-joiner (Binary B.BitXor) = refl
continues_at-joiner (Binary B.BitOr) = refl
continues_at-joiner And = refl
continues_at-joiner Or = refl

pub some_same : {A : Type 0} (x y : A) → Some x ≡ Some y → x ≡ y
some_same x y e = cc

pub joiner_of-back : (s : Symbol) (j : Joiner) → joiner_of s ≡ Some j → joiner_symbol j ≡ s
joiner_of-back (sign S.Plus) j e = ap joiner_symbol (sym (some_same (Binary B.Add) j e))
joiner_of-back (sign S.Minus) j e = ap joiner_symbol (sym (some_same (Binary B.Subtract) j e))
joiner_of-back (sign S.Star) j e = ap joiner_symbol (sym (some_same (Binary B.Multiply) j e))
joiner_of-back (sign S.DoubleSlash) j e = ap joiner_symbol (sym (some_same (Binary B.Divide) j e))
joiner_of-back (sign S.Percent) j e = ap joiner_symbol (sym (some_same (Binary B.Remainder) j e))
joiner_of-back (sign S.ShiftLeft) j e = ap joiner_symbol (sym (some_same (Binary B.ShiftLeft) j e))
joiner_of-back (sign S.ShiftRight) j e = ap joiner_symbol (sym (some_same (Binary B.ShiftRight) j e))
joiner_of-back (sign S.Ampersand) j e = ap joiner_symbol (sym (some_same (Binary B.BitAnd) j e))
joiner_of-back (sign S.Caret) j e = ap joiner_symbol (sym (some_same (Binary B.BitXor) j e))
joiner_of-back (sign S.Bar) j e = ap joiner_symbol (sym (some_same (Binary B.BitOr) j e))
joiner_of-back (key K.And) j e = ap joiner_symbol (sym (some_same And j e))
joiner_of-back (key K.Or) j e = ap joiner_symbol (sym (some_same Or j e))
joiner_of-back s j e = absurd cc

not_eight : {A : Type 0} (c : ℕ) → 8 ≡ c → kind_of c ≡ rows → A
not_eight c e k = let no : kind_of 8 ≡ rows = ap kind_of e ∙ k in absurd cc

-- a symbol that goes on at the level of rows is a joiner of that level
pub joiner-at : (s : Symbol) (c : ℕ) → continues_at s ≡ Some c → kind_of c ≡ rows → 0 < c → (j : Joiner) × (joiner_of s ≡ Some j) × (joiner_level j ≡ c)
joiner-at (sign S.Plus) c e k p = (Binary B.Add, refl, some_same 3 c e)
joiner-at (sign S.Minus) c e k p = (Binary B.Subtract, refl, some_same 3 c e)
joiner-at (sign S.Star) c e k p = (Binary B.Multiply, refl, some_same 2 c e)
joiner-at (sign S.DoubleSlash) c e k p = (Binary B.Divide, refl, some_same 2 c e)
joiner-at (sign S.Percent) c e k p = (Binary B.Remainder, refl, some_same 2 c e)
joiner-at (sign S.ShiftLeft) c e k p = (Binary B.ShiftLeft, refl, some_same 4 c e)
joiner-at (sign S.ShiftRight) c e k p = (Binary B.ShiftRight, refl, some_same 4 c e)
joiner-at (sign S.Ampersand) c e k p = (Binary B.BitAnd, refl, some_same 5 c e)
joiner-at (sign S.Caret) c e k p = (Binary B.BitXor, refl, some_same 6 c e)
joiner-at (sign S.Bar) c e k p = (Binary B.BitOr, refl, some_same 7 c e)
joiner-at (key K.And) c e k p = (And, refl, some_same 10 c e)
joiner-at (key K.Or) c e k p = (Or, refl, some_same 11 c e)
joiner-at (sign S.OpenParenthesis) c e k p = absurd (omega (arith, some_same 0 c e, p))
joiner-at (sign S.OpenBracket) c e k p = absurd (omega (arith, some_same 0 c e, p))
joiner-at (sign S.Dot) c e k p = absurd (omega (arith, some_same 0 c e, p))
joiner-at (sign S.Equal) c e k p = not_eight c (some_same 8 c e) k
joiner-at (sign S.NotEqual) c e k p = not_eight c (some_same 8 c e) k
joiner-at (sign S.Less) c e k p = not_eight c (some_same 8 c e) k
joiner-at (sign S.LessEqual) c e k p = not_eight c (some_same 8 c e) k
joiner-at (sign S.Greater) c e k p = not_eight c (some_same 8 c e) k
joiner-at (sign S.GreaterEqual) c e k p = not_eight c (some_same 8 c e) k
joiner-at s c e k p = absurd cc

-- what the first joiner of a level says of the symbols
pub record FirstJoiner (level : ℕ) (symbols : List Symbol) (j : Joiner) : Type 0 where
  pub rest : List Symbol
  pub whole : symbols ≡ joiner_symbol j ∷ rest
  pub level_is : joiner_level j ≡ level

of_level-tested : (level : ℕ) (i j : Joiner) → ((eqb (joiner_level i) level ≡ true) × (joiner_level i ≡ level)) ⊎ ((eqb (joiner_level i) level ≡ false) × (joiner_level i ≢ level)) → cond (eqb (joiner_level i) level) (Some i) None ≡ Some j → (Some i ≡ Some j) × (joiner_level j ≡ level)
of_level-tested level i j (inl t) e = let same : i ≡ j = some_same i j (ap (λ b. cond b (Some i) None) (sym t.0) ∙ e) in (ap (λ x. Some x) same, subst (λ x. joiner_level x ≡ level) same t.1)
of_level-tested level i j (inr t) e = let no : None ≡ Some j = ap (λ b. cond b (Some i) None) (sym t.0) ∙ e in absurd cc

of_level-some : (level : ℕ) (o : Option Joiner) (j : Joiner) → if_of_level level o ≡ Some j → (o ≡ Some j) × (joiner_level j ≡ level)
of_level-some level None j e = absurd cc
of_level-some level (Some i) j e = of_level-tested level i j (eqb_tells (joiner_level i) level) e

pub first_joiner-some : (level : ℕ) (symbols : List Symbol) (j : Joiner) → first_joiner level symbols ≡ Some j → FirstJoiner level symbols j
first_joiner-some level [] j e = absurd cc
first_joiner-some level (s ∷ rest) j e =
    let found = of_level-some level (joiner_of s) j e in
    record { rest = rest; whole = ap (λ x. x ∷ rest) (sym (joiner_of-back s j found.0)); level_is = found.1 }

pub first_joiner-own : (j : Joiner) (rest : List Symbol) → first_joiner (joiner_level j) (joiner_symbol j ∷ rest) ≡ Some j
first_joiner-own j rest =
    ap (if_of_level (joiner_level j)) (joiner_of-symbol j) ∙ ap (λ b. cond b (Some j) None) (eq-eqb (joiner_level j) (joiner_level j) refl)

-- a symbol that goes on at a level stops each tighter one
pub stops-joiner : (level : ℕ) (j : Joiner) (rest : List Symbol) → level < joiner_level j → stops level (joiner_symbol j ∷ rest) ≡ true
stops-joiner level j rest h = ap (stops_at level) (continues_at-joiner j) ∙ lt-ltb level (joiner_level j) h

-- where a phrase of a level stops, no joiner of the level follows
none_of : (level : ℕ) (s : Symbol) (rest : List Symbol) (o : Option Joiner) → joiner_of s ≡ o → stops level (s ∷ rest) ≡ true → if_of_level level o ≡ None
none_of level s rest None e h = refl
none_of level s rest (Some j) e h =
    let c : continues_at s ≡ Some (joiner_level j) = ap continues_at (sym (joiner_of-back s j e)) ∙ continues_at-joiner j in
    let past : nat_lt level (joiner_level j) ≡ true = ap (stops_at level) (sym c) ∙ h in
    ap (λ b. cond b (Some j) None) (ne_eqb (joiner_level j) level (λ same. omega (arith, same, ltb-true level (joiner_level j) past)))

pub first_joiner-none : (level : ℕ) (symbols : List Symbol) → stops level symbols ≡ true → first_joiner level symbols ≡ None
first_joiner-none level [] h = refl
first_joiner-none level (s ∷ rest) h = none_of level s rest (joiner_of s) refl h

stops_by : {c : ℕ} (level : ℕ) (s : Symbol) → continues_at s ≡ Some c → kind_of (suc level) ≡ rows → nat_lt level c ≡ true → if_of_level (suc level) (joiner_of s) ≡ None → ((eqb c (suc level) ≡ true) × (c ≡ suc level)) ⊎ ((eqb c (suc level) ≡ false) × (c ≢ suc level)) → nat_lt (suc level) c ≡ true
stops_by {c} level s e k h n (inr t) = lt-ltb (suc level) c (omega (arith, ltb-true level c h, t.1))
stops_by {c} level s e k h n (inl t) =
    let found = joiner-at s c e (ap kind_of t.1 ∙ k) (omega (arith, ltb-true level c h)) in
    let has : if_of_level (suc level) (joiner_of s) ≡ Some found.0 = ap (if_of_level (suc level)) found.1 ∙ ap (λ b. cond b (Some found.0) None) (eq-eqb (joiner_level found.0) (suc level) (found.2 ∙ t.1)) in
    let no : None ≡ Some found.0 = sym n ∙ has in
    absurd cc

-- where a tighter phrase stops and no joiner of the level follows, a phrase of the level stops
stops_on : (level : ℕ) (s : Symbol) (o : Option ℕ) → continues_at s ≡ o → kind_of (suc level) ≡ rows → stops_at level o ≡ true → if_of_level (suc level) (joiner_of s) ≡ None → stops_at (suc level) o ≡ true
stops_on level s None e k h n = refl
stops_on level s (Some c) e k h n = stops_by level s e k h n (eqb_tells c (suc level))

pub stops-row : (level : ℕ) (symbols : List Symbol) → kind_of (suc level) ≡ rows → stops level symbols ≡ true → first_joiner (suc level) symbols ≡ None → stops (suc level) symbols ≡ true
stops-row level [] k h n = refl
stops-row level (s ∷ rest) k h n = stops_on level s (continues_at s) refl k h n
