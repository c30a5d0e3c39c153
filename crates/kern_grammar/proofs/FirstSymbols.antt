-- How expressions and arguments begin.
use Rattle.std.proofs.Common.{◌≡◌, suc, List, [], ◌∷◌, ◌++◌, refl, sym, ◌∙◌, ap, append_assoc, length}
use Rattle.kern_lexer.specs.Symbols.{Symbol, name, key, number, quoted, sign}
use Rattle.kern_lexer.specs.declared.token.Key.TheVariants as K
use Rattle.kern_lexer.specs.declared.token.Sign.TheVariants as S
use Rattle.kern_syntax.specs.declared.expression.UnaryOperator.TheVariants as U
use Rattle.kern_syntax.specs.Tree.{Expression, integer, true_literal, false_literal, variable, element, group, unary, binary, compare, negation, conjunction, disjunction, call, method, Arguments, no_more, value_then, text_then}
use Rattle.kern_grammar.specs.Expressions.{expression_symbols, argument_symbols, comma_before, binary_sign, comparison_sign}
use Rattle.kern_grammar.specs.Reading.{Inside, Item, value, text, item_then, item, value_item, items, arguments}
use Rattle.kern_grammar.proofs.Atoms.{closed_arguments}

-- an expression's first symbol, which is no text and no closing parenthesis
pub record BeginsAs (e : Expression) : Type 0 where
  pub first : Symbol
  pub others : List Symbol
  pub is : expression_symbols e ≡ first ∷ others
  pub as_value : (inside : Inside) (rest : List Symbol) → item inside (first ∷ rest) ≡ value_item inside (first ∷ rest)
  pub as_items : (inside : Inside) (rest : List Symbol) → arguments inside (first ∷ rest) ≡ items inside (suc (length (first ∷ rest))) (first ∷ rest)

-- an expression that begins as its left operand
left_first : (e a : Expression) (more : List Symbol) → expression_symbols e ≡ expression_symbols a ++ more → BeginsAs a → BeginsAs e
left_first e a more h f = record { first = f.first; others = f.others ++ more; is = h ∙ ap (λ x. x ++ more) f.is; as_value = f.as_value; as_items = f.as_items }

pub begins_as : (e : Expression) → BeginsAs e
begins_as (disjunction a b) = left_first (disjunction a b) a (key K.Or ∷ expression_symbols b) refl (begins_as a)
begins_as (conjunction a b) = left_first (conjunction a b) a (key K.And ∷ expression_symbols b) refl (begins_as a)
begins_as (compare op a b) = left_first (compare op a b) a (sign (comparison_sign op) ∷ expression_symbols b) refl (begins_as a)
begins_as (binary op a b) = left_first (binary op a b) a (sign (binary_sign op) ∷ expression_symbols b) refl (begins_as a)
begins_as (negation e) = record { first = key K.Not; others = expression_symbols e; is = refl; as_value = λ inside rest. refl; as_items = λ inside rest. refl }
begins_as (unary U.Negate e) = record { first = sign S.Minus; others = expression_symbols e; is = refl; as_value = λ inside rest. refl; as_items = λ inside rest. refl }
begins_as (unary U.Invert e) = record { first = sign S.Tilde; others = expression_symbols e; is = refl; as_value = λ inside rest. refl; as_items = λ inside rest. refl }
begins_as (integer n) = record { first = number n; others = []; is = refl; as_value = λ inside rest. refl; as_items = λ inside rest. refl }
begins_as true_literal = record { first = key K.True; others = []; is = refl; as_value = λ inside rest. refl; as_items = λ inside rest. refl }
begins_as false_literal = record { first = key K.False; others = []; is = refl; as_value = λ inside rest. refl; as_items = λ inside rest. refl }
begins_as (variable x) = record { first = name x; others = []; is = refl; as_value = λ inside rest. refl; as_items = λ inside rest. refl }
begins_as (element x i) = record { first = name x; others = sign S.OpenBracket ∷ expression_symbols i ++ sign S.CloseBracket ∷ []; is = refl; as_value = λ inside rest. refl; as_items = λ inside rest. refl }
begins_as (group e) = record { first = sign S.OpenParenthesis; others = expression_symbols e ++ sign S.CloseParenthesis ∷ []; is = refl; as_value = λ inside rest. refl; as_items = λ inside rest. refl }
begins_as (call f args) = record { first = name f; others = sign S.OpenParenthesis ∷ argument_symbols args ++ sign S.CloseParenthesis ∷ []; is = refl; as_value = λ inside rest. refl; as_items = λ inside rest. refl }
begins_as (method o m args) = record { first = name o; others = sign S.Dot ∷ name m ∷ sign S.OpenParenthesis ∷ argument_symbols args ++ sign S.CloseParenthesis ∷ []; is = refl; as_value = λ inside rest. refl; as_items = λ inside rest. refl }

-- an argument's symbols
abbrev pub item_symbols : Item → List Symbol
item_symbols (value e) = expression_symbols e
item_symbols (text t) = quoted t ∷ []

-- what follows an argument before the others
abbrev pub after_item : Arguments → List Symbol → List Symbol
after_item no_more rest = sign S.CloseParenthesis ∷ rest
after_item args rest = sign S.Comma ∷ (closed_arguments args ++ rest)

-- a comma before more arguments
comma_then : (args : Arguments) (rest : List Symbol) → (comma_before (argument_symbols args) ++ sign S.CloseParenthesis ∷ []) ++ rest ≡ after_item args rest
comma_then no_more rest = refl
comma_then (text_then t args) rest = refl
comma_then (value_then e args) rest =
    let f = begins_as e in
    let all : expression_symbols e ++ comma_before (argument_symbols args) ≡ f.first ∷ (f.others ++ comma_before (argument_symbols args)) = ap (λ x. x ++ comma_before (argument_symbols args)) f.is in
    ap (λ x. (comma_before x ++ sign S.CloseParenthesis ∷ []) ++ rest) all
    ∙ ap (λ x. (sign S.Comma ∷ (x ++ sign S.CloseParenthesis ∷ [])) ++ rest) (sym all)

-- arguments before a rest begin with their first, and then its comma or the closing parenthesis
pub closed_item : (x : Item) (args : Arguments) (rest : List Symbol) → closed_arguments (item_then x args) ++ rest ≡ item_symbols x ++ after_item args rest
closed_item (value e) args rest =
    ap (λ y. y ++ rest) (append_assoc (expression_symbols e) (comma_before (argument_symbols args)) (sign S.CloseParenthesis ∷ []))
    ∙ append_assoc (expression_symbols e) (comma_before (argument_symbols args) ++ sign S.CloseParenthesis ∷ []) rest
    ∙ ap (λ y. expression_symbols e ++ y) (comma_then args rest)
closed_item (text t) args rest = ap (λ y. quoted t ∷ y) (comma_then args rest)
