-- For the proofs alone: expressions, whose tokens Expressions defines, stated again as reading from the front of
-- symbols, which gives the tree and what follows it, or what is left from the first wrong symbol on.
use Rattle.std.specs.Prelude.{ℕ, zero, suc, List, [], ◌∷◌, Bool, true, false, ◌==◌, Option}
use Rattle.std.specs.Prelude.{Some, None, Result, Ok, Err, length, drop, if◌then◌else◌}
use Rattle.kern_lexer.specs.Bytes.{Bytes}
use Rattle.kern_lexer.specs.Symbols.{Symbol, name, key, number, quoted, sign}
use Rattle.kern_lexer.specs.declared.token.Key.TheVariants as K
use Rattle.kern_lexer.specs.declared.token.Sign.TheVariants as S
use Rattle.kern_syntax.specs.declared.expression.Comparison.{Comparison}
use Rattle.kern_syntax.specs.declared.expression.UnaryOperator.{UnaryOperator}
use Rattle.kern_syntax.specs.declared.expression.UnaryOperator.TheVariants as U
use Rattle.kern_syntax.specs.Tree.{Expression, integer, true_literal, false_literal, variable, element, group, unary}
use Rattle.kern_syntax.specs.Tree.{compare, negation, call, method, Arguments, no_more, value_then, text_then}
use Rattle.kern_grammar.specs.Operators.{join, comparison_of, first_joiner, stops}

-- what was read and what follows it, or what is left from the first wrong symbol on
abbrev pub Read : Type 0 → Type 0
Read A = Result (A × List Symbol) (List Symbol)

infixl 10 ◌>>=◌
abbrev pub ◌>>=◌ : {A B : Type 0} → Read A → (A × List Symbol → Read B) → Read B
(Ok x) >>= f = f x
(Err left) >>= f = Err left

-- one answer where nothing is there, and another by what is there
abbrev pub choose : {A B : Type 0} → Option A → B → (A → B) → B
choose None none some = none
choose (Some x) none some = some x

abbrev pub Reader : Type 0
Reader = List Symbol → Read Expression

-- the readers, by level, of what stands one deeper, where there is room for it
abbrev pub Inside : Type 0
Inside = Option (ℕ → Reader)

-- a row of operators of a level behind its first operand, with so many turns left
abbrev pub row_behind : (turns level : ℕ) → (tighter : Reader) → Expression → Reader
row_behind zero level tighter so_far symbols = choose (first_joiner level symbols) (Ok (so_far, symbols)) (λ j. Err symbols)
row_behind (suc more) level tighter so_far symbols = choose (first_joiner level symbols) (Ok (so_far, symbols)) (λ j. do
  right ← tighter (drop 1 symbols)
  row_behind more level tighter (join j so_far right.0) right.1)

-- a row of operators of a level, of at most so many turns
abbrev pub row : (most level : ℕ) → (tighter : Reader) → Reader
row most level tighter symbols = do
  first ← tighter symbols
  row_behind most level tighter first.0 first.1

-- the comparison that the symbols begin with
abbrev pub first_comparison : List Symbol → Option Comparison
first_comparison [] = None
first_comparison (s ∷ rest) = comparison_of s

-- a comparison that no other follows
abbrev pub end_of_comparison : Expression → Reader
end_of_comparison e symbols = choose (first_comparison symbols) (Ok (e, symbols)) (λ op. Err symbols)

-- a comparison behind its left operand, or the operand alone
abbrev pub comparison_behind : (tighter : Reader) → Expression → Reader
comparison_behind tighter left symbols = choose (first_comparison symbols) (Ok (left, symbols)) (λ op. do
  right ← tighter (drop 1 symbols)
  end_of_comparison (compare op left right.0) right.1)

-- an operand, or two with a comparison between them
abbrev pub comparison : (tighter : Reader) → Reader
comparison tighter symbols = do
  left ← tighter symbols
  comparison_behind tighter left.0 left.1

-- the expression that stands one deeper at a level, behind a prefix
abbrev pub operand : Inside → (level : ℕ) → (Expression → Expression) → Reader
operand None level build symbols = Err symbols
operand (Some inside) level build symbols = do
  e ← inside level (drop 1 symbols)
  Ok (build e.0, e.1)

-- the form that a prefix of an integer makes
abbrev pub prefix_form : UnaryOperator → Expression → Expression
prefix_form op e = unary op e

-- the form that a symbol before an operand makes, at the level of prefixes and at that of `not`
abbrev pub unary_at : Symbol → Option (Expression → Expression)
unary_at (sign S.Minus) = Some (unary U.Negate)
unary_at (sign S.Tilde) = Some (unary U.Invert)
unary_at s = None

abbrev pub not_at : Symbol → Option (Expression → Expression)
not_at (key K.Not) = Some negation
not_at s = None

-- the form that the first symbol makes
abbrev pub first_form : (form_at : Symbol → Option (Expression → Expression)) → List Symbol → Option (Expression → Expression)
first_form form_at [] = None
first_form form_at (s ∷ rest) = form_at s

-- a prefix and its operand, or a phrase of the next tighter level
abbrev pub prefixed : (form_at : Symbol → Option (Expression → Expression)) → Inside → (level : ℕ) → (tighter : Reader) → Reader
prefixed form_at inside level tighter symbols = choose (first_form form_at symbols) (tighter symbols) (λ build. operand inside level build symbols)

-- the closing sign, and what stands before it
abbrev pub closed : (is_closing : Symbol → Bool) → Expression → Reader
closed is_closing e [] = Err []
closed is_closing e (s ∷ rest) = if is_closing s then Ok (e, rest) else Err (s ∷ rest)

-- what stands between an opening sign, which is the first symbol, and a closing one
abbrev pub enclosed : Inside → (is_closing : Symbol → Bool) → (Expression → Expression) → Reader
enclosed None is_closing build symbols = Err symbols
enclosed (Some inside) is_closing build symbols = do
  e ← inside 11 (drop 1 symbols)
  closed is_closing (build e.0) e.1

abbrev pub is_close_parenthesis : Symbol → Bool
is_close_parenthesis (sign S.CloseParenthesis) = true
is_close_parenthesis s = false

abbrev pub is_close_bracket : Symbol → Bool
is_close_bracket (sign S.CloseBracket) = true
is_close_bracket s = false

-- an argument
pub data Item : Type 0 where
  value : Expression → Item
  text : Bytes → Item

-- an argument before the others
abbrev pub item_then : Item → Arguments → Arguments
item_then (value e) rest = value_then e rest
item_then (text t) rest = text_then t rest

-- an expression as an argument, where there is room for it
abbrev pub value_item : Inside → List Symbol → Read Item
value_item None symbols = Err symbols
value_item (Some inside) symbols = do
  e ← inside 11 symbols
  Ok (value e.0, e.1)

-- an argument
abbrev pub item : Inside → List Symbol → Read Item
item inside (quoted t ∷ rest) = Ok (text t, rest)
item inside symbols = value_item inside symbols

-- what follows an argument: a comma and more of them, or the closing parenthesis
abbrev pub items_behind : Item → (more : List Symbol → Read Arguments) → List Symbol → Read Arguments
items_behind first more (sign S.Comma ∷ rest) = do
  others ← more rest
  Ok (item_then first others.0, others.1)
items_behind first more (sign S.CloseParenthesis ∷ rest) = Ok (item_then first no_more, rest)
items_behind first more symbols = Err symbols

-- whether a comma stands here, and so another argument behind it, or the closing parenthesis
abbrev pub comma_or_close : List Symbol → Read Bool
comma_or_close (sign S.Comma ∷ rest) = Ok (true, rest)
comma_or_close (sign S.CloseParenthesis ∷ rest) = Ok (false, rest)
comma_or_close symbols = Err symbols

-- at most so many arguments, and the closing parenthesis
abbrev pub items : Inside → (most : ℕ) → List Symbol → Read Arguments
items inside zero symbols = Err symbols
items inside (suc most) symbols = do
  first ← item inside symbols
  items_behind first.0 (items inside most) first.1

-- the arguments behind an opening parenthesis, and the closing one
abbrev pub arguments : Inside → List Symbol → Read Arguments
arguments inside (sign S.CloseParenthesis ∷ rest) = Ok (no_more, rest)
arguments inside symbols = items inside (suc (length symbols)) symbols

-- a call by its arguments
abbrev pub called : Inside → (Arguments → Expression) → Reader
called inside build symbols = do
  args ← arguments inside symbols
  Ok (build args.0, args.1)

-- the arguments of a method
abbrev pub behind_method : Inside → (object name : Bytes) → Reader
behind_method inside x m (sign S.OpenParenthesis ∷ rest) = called inside (method x m) rest
behind_method inside x m symbols = Err symbols

-- the method behind a dot
abbrev pub behind_dot : Inside → Bytes → Reader
behind_dot inside x (name m ∷ sign S.OpenParenthesis ∷ rest) = called inside (method x m) rest
behind_dot inside x (name m ∷ rest) = Err rest
behind_dot inside x symbols = Err symbols

-- a name with an index, with arguments, with a method, or alone
abbrev pub behind_name : Inside → Bytes → Reader
behind_name inside x (sign S.OpenBracket ∷ rest) = enclosed inside is_close_bracket (element x) (sign S.OpenBracket ∷ rest)
behind_name inside x (sign S.OpenParenthesis ∷ rest) = called inside (call x) rest
behind_name inside x (sign S.Dot ∷ rest) = behind_dot inside x rest
behind_name inside x symbols = Ok (variable x, symbols)

-- an atom, whatever follows it
abbrev pub bare_atom : Inside → Reader
bare_atom inside (number n ∷ rest) = Ok (integer n, rest)
bare_atom inside (key K.True ∷ rest) = Ok (true_literal, rest)
bare_atom inside (key K.False ∷ rest) = Ok (false_literal, rest)
bare_atom inside (name x ∷ rest) = behind_name inside x rest
bare_atom inside (sign S.OpenParenthesis ∷ rest) = enclosed inside is_close_parenthesis group (sign S.OpenParenthesis ∷ rest)
bare_atom inside symbols = Err symbols

-- an expression that no opening bracket and no dot follows
abbrev pub ended : Expression → Reader
ended e symbols = if stops 0 symbols then Ok (e, symbols) else Err symbols

-- an atom
abbrev pub atom : Inside → Reader
atom inside symbols = do
  e ← bare_atom inside symbols
  ended e.0 e.1

-- the kinds of levels
pub data LevelKind : Type 0 where
  prefixes rows comparisons negations : LevelKind

abbrev pub kind_of : ℕ → LevelKind
kind_of level = if level == 1 then prefixes else (if level == 8 then comparisons else (if level == 9 then negations else rows))

-- a level over the next tighter one
abbrev pub at_level : LevelKind → Inside → (level : ℕ) → (tighter : Reader) → Reader
at_level prefixes inside level tighter symbols = prefixed unary_at inside 1 tighter symbols
at_level rows inside level tighter symbols = row 16 level tighter symbols
at_level comparisons inside level tighter symbols = comparison tighter symbols
at_level negations inside level tighter symbols = prefixed not_at inside 9 tighter symbols

-- each level
abbrev pub level_reader : Inside → (level : ℕ) → Reader
level_reader inside zero symbols = atom inside symbols
level_reader inside (suc l) symbols = at_level (kind_of (suc l)) inside (suc l) (level_reader inside l) symbols

-- the readers with so much room
abbrev pub readers : (room : ℕ) → ℕ → Reader
readers zero = level_reader None
readers (suc room) = level_reader (Some (readers room))

-- the readers of what stands one deeper
abbrev pub inside_of : (room : ℕ) → Inside
inside_of zero = None
inside_of (suc room) = Some (readers room)
