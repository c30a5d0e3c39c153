-- The symbols that go on with an expression, and the operators that they stand for.
use Rattle.std.specs.Prelude.{ℕ, List, [], ◌∷◌, Bool, true, nat_lt, ◌==◌, Option, Some, None, if◌then◌else◌}
use Rattle.kern_lexer.specs.Symbols.{Symbol, key, sign}
use Rattle.kern_lexer.specs.declared.token.Key.TheVariants as K
use Rattle.kern_lexer.specs.declared.token.Sign.TheVariants as S
use Rattle.kern_syntax.specs.declared.expression.BinaryOperator.TheVariants as B
use Rattle.kern_syntax.specs.declared.expression.Comparison.{Comparison}
use Rattle.kern_syntax.specs.declared.expression.Comparison.TheVariants as C
use Rattle.kern_syntax.specs.Levels.{binary_level}
use Rattle.kern_syntax.specs.Tree.{Expression, binary, conjunction, disjunction}
use Rattle.kern_grammar.specs.Expressions.{binary_sign}
use Rattle.kern_grammar.specs.declared.joiner.Joiner.{Joiner}
use Rattle.kern_grammar.specs.declared.joiner.Joiner.TheVariants.{Binary, And, Or}

-- the level of an operator that may be repeated in a row
abbrev pub joiner_level : Joiner → ℕ
joiner_level (Binary op) = binary_level op
joiner_level And = 10
joiner_level Or = 11

-- its symbol
abbrev pub joiner_symbol : Joiner → Symbol
joiner_symbol (Binary op) = sign (binary_sign op)
joiner_symbol And = key K.And
joiner_symbol Or = key K.Or

-- its expression
abbrev pub join : Joiner → (left right : Expression) → Expression
join (Binary op) a b = binary op a b
join And a b = conjunction a b
join Or a b = disjunction a b

-- the joiner that a symbol is
abbrev pub joiner_of : Symbol → Option Joiner
joiner_of (sign S.Plus) = Some (Binary B.Add)
joiner_of (sign S.Minus) = Some (Binary B.Subtract)
joiner_of (sign S.Star) = Some (Binary B.Multiply)
joiner_of (sign S.DoubleSlash) = Some (Binary B.Divide)
joiner_of (sign S.Percent) = Some (Binary B.Remainder)
joiner_of (sign S.ShiftLeft) = Some (Binary B.ShiftLeft)
joiner_of (sign S.ShiftRight) = Some (Binary B.ShiftRight)
joiner_of (sign S.Ampersand) = Some (Binary B.BitAnd)
joiner_of (sign S.Caret) = Some (Binary B.BitXor)
joiner_of (sign S.Bar) = Some (Binary B.BitOr)
joiner_of (key K.And) = Some And
joiner_of (key K.Or) = Some Or
joiner_of s = None

-- the comparison that a symbol is
abbrev pub comparison_of : Symbol → Option Comparison
comparison_of (sign S.Equal) = Some C.Equal
comparison_of (sign S.NotEqual) = Some C.NotEqual
comparison_of (sign S.Less) = Some C.Less
comparison_of (sign S.LessEqual) = Some C.LessEqual
comparison_of (sign S.Greater) = Some C.Greater
comparison_of (sign S.GreaterEqual) = Some C.GreaterEqual
comparison_of s = None

-- the level at which a symbol goes on with what stands before it
abbrev pub continues_at : Symbol → Option ℕ
continues_at (sign S.OpenParenthesis) = Some 0
continues_at (sign S.OpenBracket) = Some 0
continues_at (sign S.Dot) = Some 0
continues_at (sign S.Star) = Some 2
continues_at (sign S.DoubleSlash) = Some 2
continues_at (sign S.Percent) = Some 2
continues_at (sign S.Plus) = Some 3
continues_at (sign S.Minus) = Some 3
continues_at (sign S.ShiftLeft) = Some 4
continues_at (sign S.ShiftRight) = Some 4
continues_at (sign S.Ampersand) = Some 5
continues_at (sign S.Caret) = Some 6
continues_at (sign S.Bar) = Some 7
continues_at (sign S.Equal) = Some 8
continues_at (sign S.NotEqual) = Some 8
continues_at (sign S.Less) = Some 8
continues_at (sign S.LessEqual) = Some 8
continues_at (sign S.Greater) = Some 8
continues_at (sign S.GreaterEqual) = Some 8
continues_at (key K.And) = Some 10
continues_at (key K.Or) = Some 11
continues_at s = None

-- whether a symbol that goes on at this level, if at any, leaves a phrase of another level
abbrev pub stops_at : ℕ → Option ℕ → Bool
stops_at level None = true
stops_at level (Some l) = nat_lt level l

-- whether what follows doesn't go on with a phrase of a level
abbrev pub stops : ℕ → List Symbol → Bool
stops level [] = true
stops level (s ∷ rest) = stops_at level (continues_at s)

-- the joiner of a level
abbrev pub if_of_level : ℕ → Option Joiner → Option Joiner
if_of_level level None = None
if_of_level level (Some j) = if joiner_level j == level then Some j else None

-- the joiner of a level that the symbols begin with
abbrev pub first_joiner : ℕ → List Symbol → Option Joiner
first_joiner level [] = None
first_joiner level (s ∷ rest) = if_of_level level (joiner_of s)
