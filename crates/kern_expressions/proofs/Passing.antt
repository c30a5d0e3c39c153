-- A level without an operator of its own reads what the next tighter level reads.
use Rattle.std.proofs.Common.{◌≡◌, ◌≢◌, ℕ, zero, suc, ◌-◌, ◌≤◌, ◌<◌, Bool, true, false, cond, ◌&&◌, List, [], ◌∷◌, refl, sym, ◌∙◌, ap, subst, arith, ◌⊎◌, inl, inr, nat_le, drop}
use Rattle.std.proofs.lemmas.Bool.{ne_eqb, le-leb, leb-true}
use Rattle.std.proofs.lemmas.Bool.Decides.{eqb_tells}
use Rattle.std.specs.Option.{unwrap_or}
use Rattle.std.specs.Prelude.{Option, Some, None, Ok, Err, is_some, min, not, ◌==◌}
use Rattle.kern_lexer.specs.Symbols.{Symbol, key, number, sign}
use Rattle.kern_lexer.specs.declared.token.Key.TheVariants as K
use Rattle.kern_lexer.specs.declared.token.Sign.TheVariants as S
use Rattle.kern_syntax.specs.Tree.{Expression, compare, integer}
use Rattle.kern_syntax.specs.declared.expression.Comparison.{Comparison}
use Rattle.kern_syntax.specs.declared.expression.Comparison.TheVariants as C
use Rattle.kern_grammar.specs.declared.joiner.Joiner.{Joiner}
use Rattle.kern_grammar.specs.Expressions.{comparison_sign}
use Rattle.kern_grammar.specs.Operators.{first_joiner}
use Rattle.kern_grammar.specs.Reading.{Reader, Inside, ◌>>=◌, choose, kind_of, at_level, row_behind, level_reader, first_form, operand, comparison_behind, first_comparison, end_of_comparison, not_at}
use Rattle.kern_grammar.proofs.Comparisons.{first_comparison-some}
use Rattle.kern_grammar.proofs.Joiners.{continues_at-joiner, first_joiner-some}
use Rattle.kern_grammar.proofs.RowReads.{row_behind-none, then_ok}
use Rattle.kern_expressions.specs.Passing.{argument_ended, level_of_symbol, operator_level, front_level, behind_operand}
use Rattle.kern_expressions.proofs.Exits.{end_passes}

-- the first joiner of a level is an operator of that level
joiner-stands : (level : ℕ) (symbols : List Symbol) (j : Joiner) → first_joiner level symbols ≡ Some j → operator_level symbols ≡ level
joiner-stands level symbols j h =
    let found = first_joiner-some level symbols j h in
    ap operator_level found.whole ∙ ap (λ o. unwrap_or o 0) (continues_at-joiner j) ∙ found.level_is

no_joiner_by : (level : ℕ) (symbols : List Symbol) (o : Option Joiner) → first_joiner level symbols ≡ o → operator_level symbols ≢ level → first_joiner level symbols ≡ None
no_joiner_by level symbols None h n = h
no_joiner_by level symbols (Some j) h n = absurd (n (joiner-stands level symbols j h))

comparison-stands : (op : Comparison) (rest : List Symbol) → operator_level (sign (comparison_sign op) ∷ rest) ≡ 8
comparison-stands C.Equal rest = refl
comparison-stands _ rest = refl

no_comparison_by : (symbols : List Symbol) (o : Option Comparison) → first_comparison symbols ≡ o → operator_level symbols ≢ 8 → first_comparison symbols ≡ None
no_comparison_by symbols None h n = h
no_comparison_by symbols (Some op) h n =
    let found = first_comparison-some symbols op h in
    absurd (n (ap operator_level found.whole ∙ comparison-stands op found.rest))

-- no symbol is an operator of the level of `not`
not_nine : (s : Symbol) → not (level_of_symbol s == 9) ≡ true
not_nine (sign S.OpenParenthesis) = refl
not_nine (sign S.OpenBracket) = refl
not_nine (sign S.Dot) = refl
not_nine (sign S.Star) = refl
not_nine (sign S.DoubleSlash) = refl
not_nine (sign S.Percent) = refl
not_nine (sign S.Plus) = refl
not_nine (sign S.Minus) = refl
not_nine (sign S.ShiftLeft) = refl
not_nine (sign S.ShiftRight) = refl
not_nine (sign S.Ampersand) = refl
not_nine (sign S.Caret) = refl
not_nine (sign S.Bar) = refl
not_nine (sign S.Equal) = refl
not_nine (sign S.NotEqual) = refl
not_nine (sign S.Less) = refl
not_nine (sign S.LessEqual) = refl
not_nine (sign S.Greater) = refl
not_nine (sign S.GreaterEqual) = refl
not_nine (key K.And) = refl
not_nine (key K.Or) = refl
not_nine s = refl

never-nine : (symbols : List Symbol) → operator_level symbols ≢ 9
never-nine [] h = absurd cc
never-nine (s ∷ rest) h = let wrong : false ≡ true = sym (ap (λ n. not (n == 9)) h) ∙ not_nine s in absurd cc

-- a level of operators reads an operand and what goes on with it
level-parts : (inside : Inside) (l : ℕ) (symbols : List Symbol) → suc l ≢ 1 → suc l ≢ 9 → level_reader inside (suc l) symbols ≡ (level_reader inside l symbols >>= λ x. behind_operand (suc l) (level_reader inside l) x.0 x.1)
level-parts inside l symbols a c = elim (eqb_tells (suc l) 8) [
  | inl t ↦ rw (t.0, ne_eqb (suc l) 1 a) refl
  | inr t ↦ rw (t.0, ne_eqb (suc l) 1 a, ne_eqb (suc l) 9 c) refl
]

-- nothing goes on at a level of which no operator stands there
nothing-behind : (level : ℕ) (tighter : Reader) (e : Expression) (symbols : List Symbol) → operator_level symbols ≢ level → behind_operand level tighter e symbols ≡ Ok (e, symbols)
nothing-behind level tighter e symbols n = elim (eqb_tells level 8) [
  | inl t ↦
      let none = no_comparison_by symbols (first_comparison symbols) refl (λ h. n (h ∙ sym t.1)) in
      ap (λ b. cond b (comparison_behind tighter e symbols) (row_behind 16 level tighter e symbols)) t.0
      ∙ ap (λ o. choose o (Ok (e, symbols)) (λ op. tighter (drop 1 symbols) >>= λ right. end_of_comparison (compare op e right.0) right.1)) none
  | inr t ↦
      ap (λ b. cond b (comparison_behind tighter e symbols) (row_behind 16 level tighter e symbols)) t.0
      ∙ row_behind-none 16 level tighter e symbols (no_joiner_by level symbols (first_joiner level symbols) refl n)
]

-- without `not` its level reads what comparisons are read as
not-absent : (inside : Inside) (l : ℕ) (symbols : List Symbol) → suc l ≡ 9 → first_form not_at symbols ≡ None → level_reader inside (suc l) symbols ≡ level_reader inside l symbols
not-absent inside l symbols nine none =
    ap (λ k. at_level k inside (suc l) (level_reader inside l) symbols) (ap kind_of nine)
    ∙ ap (λ o. choose o (level_reader inside l symbols) (λ build. operand inside 9 build symbols)) none

one_passed : (inside : Inside) (l : ℕ) (symbols rest : List Symbol) (e : Expression) → suc l ≢ 1 → (suc l ≡ 9 → first_form not_at symbols ≡ None) → operator_level rest ≢ suc l → level_reader inside l symbols ≡ Ok (e, rest) → level_reader inside (suc l) symbols ≡ Ok (e, rest)
one_passed inside l symbols rest e a absent n h = elim (eqb_tells (suc l) 9) [
  | inl t ↦ not-absent inside l symbols t.1 (absent t.1) ∙ h
  | inr t ↦
      level-parts inside l symbols a t.1
      ∙ then_ok (level_reader inside l symbols) e rest (λ x. behind_operand (suc l) (level_reader inside l) x.0 x.1) h
      ∙ nothing-behind (suc l) (level_reader inside l) e rest n
]

one_ended : (end : List Symbol) (inside : Inside) (l : ℕ) (symbols : List Symbol) → suc l ≢ 1 → (suc l ≡ 9 → first_form not_at symbols ≡ None) → level_reader inside l symbols ≡ Err end → level_reader inside (suc l) symbols ≡ Err end
one_ended end inside l symbols a absent h = elim (eqb_tells (suc l) 9) [
  | inl t ↦ not-absent inside l symbols t.1 (absent t.1) ∙ h
  | inr t ↦ level-parts inside l symbols a t.1 ∙ end_passes end (level_reader inside l symbols) (λ x. behind_operand (suc l) (level_reader inside l) x.0 x.1) h
]

-- from a level on, up to another, only operators count
pub record Reaches (level l : ℕ) (symbols : List Symbol) : Type 0 where
  pub low : l ≤ level
  pub positive : l ≡ 0 → level ≡ 0
  pub no_not : l < 9 → 9 ≤ level → first_form not_at symbols ≡ None

lower : (level l : ℕ) (symbols : List Symbol) → Reaches (suc level) l symbols → l ≢ suc level → Reaches level l symbols
lower level l symbols r n = record {
  low = omega (arith, r.low, n);
  positive = λ q. absurd (omega (arith, r.positive q));
  no_not = λ a b. r.no_not a (omega (arith, b));
}

-- the levels between, of which no operator stands there, read the same
pub levels-passed : (inside : Inside) (level l : ℕ) (symbols rest : List Symbol) (e : Expression) → Reaches level l symbols → ((k : ℕ) → l < k → k ≤ level → operator_level rest ≢ k) → level_reader inside l symbols ≡ Ok (e, rest) → level_reader inside level symbols ≡ Ok (e, rest)
levels-passed inside zero l symbols rest e r n h = let same : l ≡ 0 = omega (arith, r.low) in subst (λ k. level_reader inside k symbols ≡ Ok (e, rest)) same h
levels-passed inside (suc level) l symbols rest e r n h = elim (eqb_tells l (suc level)) [
  | inl t ↦ subst (λ k. level_reader inside k symbols ≡ Ok (e, rest)) t.1 h
  | inr t ↦
      let below = levels-passed inside level l symbols rest e (lower level l symbols r t.1) (λ k a b. n k a (omega (arith, b))) h in
      one_passed inside level symbols rest e
      (λ q. absurd (let none : l ≡ 0 = omega (arith, q, r.low, t.1) in omega (arith, r.positive none)))
      (λ q. r.no_not (omega (arith, q, r.low, t.1)) (omega (arith, q)))
      (n (suc level) (omega (arith, r.low, t.1)) (omega arith))
      below
]

-- an end of a level is the end of each looser one
pub levels-ended : (end : List Symbol) (inside : Inside) (level l : ℕ) (symbols : List Symbol) → Reaches level l symbols → level_reader inside l symbols ≡ Err end → level_reader inside level symbols ≡ Err end
levels-ended end inside zero l symbols r h = let same : l ≡ 0 = omega (arith, r.low) in subst (λ k. level_reader inside k symbols ≡ Err end) same h
levels-ended end inside (suc level) l symbols r h = elim (eqb_tells l (suc level)) [
  | inl t ↦ subst (λ k. level_reader inside k symbols ≡ Err end) t.1 h
  | inr t ↦
      let below = levels-ended end inside level l symbols (lower level l symbols r t.1) h in
      one_ended end inside level symbols
      (λ q. absurd (let none : l ≡ 0 = omega (arith, q, r.low, t.1) in omega (arith, r.positive none)))
      (λ q. r.no_not (omega (arith, q, r.low, t.1)) (omega (arith, q)))
      below
]

-- a level reached further on
pub reaches-next : (level l next : ℕ) (symbols : List Symbol) → Reaches level l symbols → l < next → next ≤ level → Reaches level next symbols
reaches-next level l next symbols r a b = record {
  low = b;
  positive = λ q. absurd (omega (arith, q, a));
  no_not = λ c d. r.no_not (omega (arith, a, c)) d;
}

-- a level of which an operator stands there reads what goes on behind what a tighter one read
pub level-goes_on : (inside : Inside) (level l next : ℕ) (symbols rest : List Symbol) (e : Expression) → Reaches level l symbols → level_reader inside l symbols ≡ Ok (e, rest) → operator_level rest ≡ next → l < next → next ≤ level → level_reader inside next symbols ≡ behind_operand next (level_reader inside (next - 1)) e rest
level-goes_on inside level l zero symbols rest e r h o a b = absurd (omega (arith, a))
level-goes_on inside level l (suc n) symbols rest e r h o a b =
    let up : Reaches n l symbols = record {
      low = omega (arith, a);
      positive = λ q. absurd (omega (arith, r.positive q, b));
      no_not = λ c d. r.no_not c (omega (arith, b, d));
    } in
    let before = levels-passed inside n l symbols rest e up (λ k c d q. omega (arith, d, q, o)) h in
    let same : n ≡ suc n - 1 = omega arith in
    level-parts inside n symbols (λ q. omega (arith, q, a, b, r.positive (omega (arith, q, a)))) (λ q. never-nine rest (o ∙ q))
    ∙ then_ok (level_reader inside n symbols) e rest (λ x. behind_operand (suc n) (level_reader inside n) x.0 x.1) before
    ∙ ap (λ m. behind_operand (suc n) (level_reader inside m) e rest) same

min_one : (level : ℕ) → (min level 1 ≤ level) × (min level 1 ≤ 1) × ((min level 1 ≡ 0) → level ≡ 0)
min_one zero = (omega arith, omega arith, λ q. refl)
min_one (suc n) = let one : min (suc n) 1 ≡ 1 = omega arith in (omega (arith, one), omega (arith, one), λ q. absurd (omega (arith, one, q)))

front_by : (level : ℕ) (symbols : List Symbol) (b : Bool) (o : Option (Expression → Expression)) → nat_le 9 level ≡ b → first_form not_at symbols ≡ o → Reaches level (cond (b && is_some o) 9 (min level 1)) symbols × ((cond (b && is_some o) 9 (min level 1) ≡ 9) ⊎ (cond (b && is_some o) 9 (min level 1) ≤ 1))
front_by level symbols true (Some f) le is = (record { low = leb-true 9 level le; positive = λ q. absurd cc; no_not = λ c d. absurd (omega (arith, c)) }, inl refl)
front_by level symbols true None le is = (record { low = (min_one level).0; positive = (min_one level).2; no_not = λ c d. is }, inr ((min_one level).1))
front_by level symbols false o le is =
    (record { low = (min_one level).0; positive = (min_one level).2; no_not = λ c d. absurd (let wrong : false ≡ true = sym le ∙ le-leb 9 level d in cc) }, inr ((min_one level).1))

pub front-reaches : (level : ℕ) (symbols : List Symbol) → Reaches level (front_level level symbols) symbols
front-reaches level symbols = (front_by level symbols (nat_le 9 level) (first_form not_at symbols) refl refl).0

pub front-known : (level : ℕ) (symbols : List Symbol) → front_level level symbols ≢ 0 → front_level level symbols ≢ 9 → front_level level symbols ≡ 1
front-known level symbols a b = elim ((front_by level symbols (nat_le 9 level) (first_form not_at symbols) refl refl).1) [
  | inl q ↦ absurd (b q)
  | inr q ↦ omega (arith, q, a)
]

-- an integer before what is no operator is the whole expression
integer-before : (inside : Inside) (n : ℕ) (s : Symbol) (rest : List Symbol) → operator_level (s ∷ rest) ≡ 0 → level_reader inside 1 (number n ∷ s ∷ rest) ≡ Ok (integer n, s ∷ rest) → level_reader inside 11 (number n ∷ s ∷ rest) ≡ Ok (integer n, s ∷ rest)
integer-before inside n s rest none h =
    levels-passed inside 11 1 (number n ∷ s ∷ rest) (s ∷ rest) (integer n) (front-reaches 11 (number n ∷ s ∷ rest)) (λ k a b q. omega (arith, a, q, none)) h

-- so it is before what ends an argument
pub integer-alone : (inside : Inside) (n : ℕ) (rest : List Symbol) → argument_ended rest ≡ true → level_reader inside 11 (number n ∷ rest) ≡ Ok (integer n, rest)
integer-alone inside n [] h = absurd cc
integer-alone inside n (sign S.Comma ∷ rest) h = integer-before inside n (sign S.Comma) rest refl refl
integer-alone inside n (sign S.CloseParenthesis ∷ rest) h = integer-before inside n (sign S.CloseParenthesis) rest refl refl
integer-alone inside n (s ∷ rest) h = absurd cc
