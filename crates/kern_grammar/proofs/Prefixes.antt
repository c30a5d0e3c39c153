-- The prefixes of integers, and `not`.
use Rattle.std.proofs.Common.{◌≡◌, ◌≢◌, ℕ, ◌≤◌, List, ◌∷◌, ◌++◌, refl, sym, ◌∙◌, ap, subst, arith, append_assoc}
use Rattle.std.specs.Prelude.{Some, None}
use Rattle.kern_lexer.specs.Symbols.{Symbol, key, sign}
use Rattle.kern_lexer.specs.declared.token.Key.TheVariants as K
use Rattle.kern_lexer.specs.declared.token.Sign.TheVariants as S
use Rattle.kern_syntax.specs.declared.expression.BinaryOperator.{BinaryOperator}
use Rattle.kern_syntax.specs.declared.expression.BinaryOperator.TheVariants as B
use Rattle.kern_syntax.specs.declared.expression.UnaryOperator.{UnaryOperator}
use Rattle.kern_syntax.specs.declared.expression.UnaryOperator.TheVariants as U
use Rattle.kern_syntax.specs.Levels.{level_of, binary_level}
use Rattle.kern_syntax.specs.Grammatical.{Fits}
use Rattle.kern_syntax.specs.Tree.{Expression, integer, true_literal, false_literal, variable, element, group, unary, binary, compare, negation, conjunction, disjunction, call, method}
use Rattle.kern_grammar.specs.Expressions.{expression_symbols, binary_sign, comparison_sign, unary_sign}
use Rattle.kern_grammar.specs.Operators.{continues_at}
use Rattle.kern_grammar.specs.Reading.{first_form, unary_at, not_at}
use Rattle.kern_grammar.proofs.Joiners.{some_same}
use Rattle.kern_grammar.proofs.PrefixReads.{IsPrefixForm}
use Rattle.kern_grammar.proofs.PrefixLevels.{IsPrefixed, ArePrefixes}

unary_form : (op : UnaryOperator) (s : Symbol) (build : Expression → Expression) → s ≡ sign (unary_sign op) → Some (unary op) ≡ Some build → IsPrefixForm 1 s build
unary_form op s build e f = subst (IsPrefixForm 1 s) (some_same (unary op) build f) (record {
  spelled = λ x. ap (λ y. y ∷ expression_symbols x) (sym e);
  level_is = λ x. refl;
  in_range = omega arith;
  inward = λ room x h. h;
  outward = λ room x h. h;
})

unary_forms : (s : Symbol) (build : Expression → Expression) → unary_at s ≡ Some build → IsPrefixForm 1 s build
unary_forms (sign S.Minus) build e = unary_form U.Negate (sign S.Minus) build refl e
unary_forms (sign S.Tilde) build e = unary_form U.Invert (sign S.Tilde) build refl e
unary_forms s build e = absurd cc

unary_of : (op : UnaryOperator) (x : Expression) → IsPrefixed unary_at (unary op x)
unary_of U.Negate x = record { symbol = sign S.Minus; build = unary U.Negate; inner = x; form = refl; is = refl }
unary_of U.Invert x = record { symbol = sign S.Tilde; build = unary U.Invert; inner = x; form = refl; is = refl }

pub at_least_2 : (op : BinaryOperator) → 2 ≤ binary_level op
at_least_2 B.Add = omega arith
at_least_2 B.Subtract = omega arith
at_least_2 B.Multiply = omega arith
at_least_2 B.Divide = omega arith
at_least_2 B.Remainder = omega arith
at_least_2 B.ShiftLeft = omega arith
at_least_2 B.ShiftRight = omega arith
at_least_2 B.BitAnd = omega arith
at_least_2 B.BitXor = omega arith
at_least_2 B.BitOr = omega arith

unary_own : (e : Expression) → level_of e ≡ 1 → IsPrefixed unary_at e
unary_own (unary op x) h = unary_of op x
unary_own (binary op a b) h = absurd (omega (arith, at_least_2 op, h))
unary_own e h = absurd (omega (arith, h))

-- no atom begins with a prefix
unary_others : (room : ℕ) (e : Expression) (rest : List Symbol) → Fits 0 room e → first_form unary_at (expression_symbols e ++ rest) ≡ None
unary_others room (binary op a b) rest f = absurd (omega (arith, at_least_2 op, f.0))
unary_others room (disjunction a b) rest f = absurd (omega (arith, f.0))
unary_others room (conjunction a b) rest f = absurd (omega (arith, f.0))
unary_others room (negation a) rest f = absurd (omega (arith, f.0))
unary_others room (compare op a b) rest f = absurd (omega (arith, f.0))
unary_others room (unary op a) rest f = absurd (omega (arith, f.0))
unary_others room (integer n) rest f = refl
unary_others room true_literal rest f = refl
unary_others room false_literal rest f = refl
unary_others room (variable x) rest f = refl
unary_others room (element x i) rest f = refl
unary_others room (group e) rest f = refl
unary_others room (call g args) rest f = refl
unary_others room (method o m args) rest f = refl

-- the levels at which symbols go on
pub goes_on : (s : Symbol) (c : ℕ) → continues_at s ≡ Some c → (c ≢ 1) × (c ≢ 9)
goes_on (sign S.OpenParenthesis) c e = (λ h. omega (arith, some_same 0 c e, h), λ h. omega (arith, some_same 0 c e, h))
goes_on (sign S.OpenBracket) c e = (λ h. omega (arith, some_same 0 c e, h), λ h. omega (arith, some_same 0 c e, h))
goes_on (sign S.Dot) c e = (λ h. omega (arith, some_same 0 c e, h), λ h. omega (arith, some_same 0 c e, h))
goes_on (sign S.Star) c e = (λ h. omega (arith, some_same 2 c e, h), λ h. omega (arith, some_same 2 c e, h))
goes_on (sign S.DoubleSlash) c e = (λ h. omega (arith, some_same 2 c e, h), λ h. omega (arith, some_same 2 c e, h))
goes_on (sign S.Percent) c e = (λ h. omega (arith, some_same 2 c e, h), λ h. omega (arith, some_same 2 c e, h))
goes_on (sign S.Plus) c e = (λ h. omega (arith, some_same 3 c e, h), λ h. omega (arith, some_same 3 c e, h))
goes_on (sign S.Minus) c e = (λ h. omega (arith, some_same 3 c e, h), λ h. omega (arith, some_same 3 c e, h))
goes_on (sign S.ShiftLeft) c e = (λ h. omega (arith, some_same 4 c e, h), λ h. omega (arith, some_same 4 c e, h))
goes_on (sign S.ShiftRight) c e = (λ h. omega (arith, some_same 4 c e, h), λ h. omega (arith, some_same 4 c e, h))
goes_on (sign S.Ampersand) c e = (λ h. omega (arith, some_same 5 c e, h), λ h. omega (arith, some_same 5 c e, h))
goes_on (sign S.Caret) c e = (λ h. omega (arith, some_same 6 c e, h), λ h. omega (arith, some_same 6 c e, h))
goes_on (sign S.Bar) c e = (λ h. omega (arith, some_same 7 c e, h), λ h. omega (arith, some_same 7 c e, h))
goes_on (sign S.Equal) c e = (λ h. omega (arith, some_same 8 c e, h), λ h. omega (arith, some_same 8 c e, h))
goes_on (sign S.NotEqual) c e = (λ h. omega (arith, some_same 8 c e, h), λ h. omega (arith, some_same 8 c e, h))
goes_on (sign S.Less) c e = (λ h. omega (arith, some_same 8 c e, h), λ h. omega (arith, some_same 8 c e, h))
goes_on (sign S.LessEqual) c e = (λ h. omega (arith, some_same 8 c e, h), λ h. omega (arith, some_same 8 c e, h))
goes_on (sign S.Greater) c e = (λ h. omega (arith, some_same 8 c e, h), λ h. omega (arith, some_same 8 c e, h))
goes_on (sign S.GreaterEqual) c e = (λ h. omega (arith, some_same 8 c e, h), λ h. omega (arith, some_same 8 c e, h))
goes_on (key K.And) c e = (λ h. omega (arith, some_same 10 c e, h), λ h. omega (arith, some_same 10 c e, h))
goes_on (key K.Or) c e = (λ h. omega (arith, some_same 11 c e, h), λ h. omega (arith, some_same 11 c e, h))
goes_on s c e = absurd cc

pub unary_prefixes : ArePrefixes 0 unary_at
unary_prefixes = record { forms = unary_forms; own = unary_own; others = unary_others; gap = λ s h. (goes_on s 1 h).0 refl }

not_forms : (s : Symbol) (build : Expression → Expression) → not_at s ≡ Some build → IsPrefixForm 9 s build
not_forms (key K.Not) build e = subst (IsPrefixForm 9 (key K.Not)) (some_same negation build e) (record {
  spelled = λ x. refl;
  level_is = λ x. refl;
  in_range = omega arith;
  inward = λ room x h. h;
  outward = λ room x h. h;
})
not_forms s build e = absurd cc

at_most_7 : (op : BinaryOperator) → binary_level op ≤ 7
at_most_7 B.Add = omega arith
at_most_7 B.Subtract = omega arith
at_most_7 B.Multiply = omega arith
at_most_7 B.Divide = omega arith
at_most_7 B.Remainder = omega arith
at_most_7 B.ShiftLeft = omega arith
at_most_7 B.ShiftRight = omega arith
at_most_7 B.BitAnd = omega arith
at_most_7 B.BitXor = omega arith
at_most_7 B.BitOr = omega arith

not_own : (e : Expression) → level_of e ≡ 9 → IsPrefixed not_at e
not_own (negation x) h = record { symbol = key K.Not; build = negation; inner = x; form = refl; is = refl }
not_own (binary op a b) h = absurd (omega (arith, at_most_7 op, h))
not_own e h = absurd (omega (arith, h))

-- no operand of a comparison begins with `not`, and no comparison does
not_others : (room : ℕ) (e : Expression) (rest : List Symbol) → Fits 8 room e → first_form not_at (expression_symbols e ++ rest) ≡ None
not_others room (binary op a b) rest f =
    ap (first_form not_at) (append_assoc (expression_symbols a) (sign (binary_sign op) ∷ expression_symbols b) rest)
    ∙ not_others room a (sign (binary_sign op) ∷ (expression_symbols b ++ rest)) (omega (arith, f.1.0.0, at_most_7 op), f.1.0.1)
not_others room (compare op a b) rest f =
    ap (first_form not_at) (append_assoc (expression_symbols a) (sign (comparison_sign op) ∷ expression_symbols b) rest)
    ∙ not_others room a (sign (comparison_sign op) ∷ (expression_symbols b ++ rest)) (omega (arith, f.1.0.0), f.1.0.1)
not_others room (disjunction a b) rest f = absurd (omega (arith, f.0))
not_others room (conjunction a b) rest f = absurd (omega (arith, f.0))
not_others room (negation a) rest f = absurd (omega (arith, f.0))
not_others room (unary op a) rest f = refl
not_others room (integer n) rest f = refl
not_others room true_literal rest f = refl
not_others room false_literal rest f = refl
not_others room (variable x) rest f = refl
not_others room (element x i) rest f = refl
not_others room (group e) rest f = refl
not_others room (call g args) rest f = refl
not_others room (method o m args) rest f = refl

pub not_prefixes : ArePrefixes 8 not_at
not_prefixes = record { forms = not_forms; own = not_own; others = not_others; gap = λ s h. (goes_on s 9 h).1 refl }
