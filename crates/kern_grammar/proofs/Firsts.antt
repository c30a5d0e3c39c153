-- How an expression begins, and what that excludes.
use Rattle.std.proofs.Common.{◌≡◌, Bool, true, false, List, [], ◌∷◌, ◌++◌, refl, ◌∙◌, ap}
use Rattle.kern_lexer.specs.Symbols.{Symbol, name, key, number, sign}
use Rattle.kern_lexer.specs.declared.token.Key.TheVariants as K
use Rattle.kern_lexer.specs.declared.token.Sign.TheVariants as S
use Rattle.kern_syntax.specs.declared.expression.UnaryOperator.TheVariants as U
use Rattle.kern_syntax.specs.Tree.{Expression, integer, true_literal, false_literal, variable, element, group, unary, binary, compare, negation, conjunction, disjunction, call, method}
use Rattle.kern_grammar.specs.BlockPlans.{is_elif, is_else, is_except, is_line}
use Rattle.kern_grammar.specs.Expressions.{expression_symbols, argument_symbols, binary_sign, comparison_sign}
use Rattle.kern_grammar.specs.Views.{line_end, open_bracket, is_seen, others, opening}

-- the symbols that an expression begins with
abbrev pub begins_expression : Symbol → Bool
begins_expression (name x) = true
begins_expression (number n) = true
begins_expression (key K.True) = true
begins_expression (key K.False) = true
begins_expression (key K.Not) = true
begins_expression (sign S.OpenParenthesis) = true
begins_expression (sign S.Minus) = true
begins_expression (sign S.Tilde) = true
begins_expression s = false

-- an expression's first symbol
pub record Head (e : Expression) : Type 0 where
  pub first : Symbol
  pub behind : List Symbol
  pub is : expression_symbols e ≡ first ∷ behind
  pub begins : begins_expression first ≡ true

left_head : (e a : Expression) (more : List Symbol) → expression_symbols e ≡ expression_symbols a ++ more → Head a → Head e
left_head e a more h f = record { first = f.first; behind = f.behind ++ more; is = h ∙ ap (λ x. x ++ more) f.is; begins = f.begins }

pub head : (e : Expression) → Head e
head (disjunction a b) = left_head (disjunction a b) a (key K.Or ∷ expression_symbols b) refl (head a)
head (conjunction a b) = left_head (conjunction a b) a (key K.And ∷ expression_symbols b) refl (head a)
head (compare op a b) = left_head (compare op a b) a (sign (comparison_sign op) ∷ expression_symbols b) refl (head a)
head (binary op a b) = left_head (binary op a b) a (sign (binary_sign op) ∷ expression_symbols b) refl (head a)
head (negation e) = record { first = key K.Not; behind = expression_symbols e; is = refl; begins = refl }
head (unary U.Negate e) = record { first = sign S.Minus; behind = expression_symbols e; is = refl; begins = refl }
head (unary U.Invert e) = record { first = sign S.Tilde; behind = expression_symbols e; is = refl; begins = refl }
head (integer n) = record { first = number n; behind = []; is = refl; begins = refl }
head true_literal = record { first = key K.True; behind = []; is = refl; begins = refl }
head false_literal = record { first = key K.False; behind = []; is = refl; begins = refl }
head (variable x) = record { first = name x; behind = []; is = refl; begins = refl }
head (element x i) = record { first = name x; behind = sign S.OpenBracket ∷ expression_symbols i ++ sign S.CloseBracket ∷ []; is = refl; begins = refl }
head (group e) = record { first = sign S.OpenParenthesis; behind = expression_symbols e ++ sign S.CloseParenthesis ∷ []; is = refl; begins = refl }
head (call f args) = record { first = name f; behind = sign S.OpenParenthesis ∷ argument_symbols args ++ sign S.CloseParenthesis ∷ []; is = refl; begins = refl }
head (method o m args) = record { first = name o; behind = sign S.Dot ∷ name m ∷ sign S.OpenParenthesis ∷ argument_symbols args ++ sign S.CloseParenthesis ∷ []; is = refl; begins = refl }

-- what a symbol that begins an expression isn't
pub record NoMark (s : Symbol) : Type 0 where
  pub no_keyword : opening s ≡ others
  pub no_end : is_seen (line_end s) ≡ false
  pub no_bracket : is_seen (open_bracket s) ≡ false
  pub no_elif : is_elif s ≡ false
  pub no_else : is_else s ≡ false
  pub no_except : is_except s ≡ false
  pub in_block : is_line s ≡ true

pub no-mark : (s : Symbol) → begins_expression s ≡ true → NoMark s
no-mark (name x) h = record { no_keyword = refl; no_end = refl; no_bracket = refl; no_elif = refl; no_else = refl; no_except = refl; in_block = refl }
no-mark (number n) h = record { no_keyword = refl; no_end = refl; no_bracket = refl; no_elif = refl; no_else = refl; no_except = refl; in_block = refl }
no-mark (key K.True) h = record { no_keyword = refl; no_end = refl; no_bracket = refl; no_elif = refl; no_else = refl; no_except = refl; in_block = refl }
no-mark (key K.False) h = record { no_keyword = refl; no_end = refl; no_bracket = refl; no_elif = refl; no_else = refl; no_except = refl; in_block = refl }
no-mark (key K.Not) h = record { no_keyword = refl; no_end = refl; no_bracket = refl; no_elif = refl; no_else = refl; no_except = refl; in_block = refl }
no-mark (sign S.OpenParenthesis) h = record { no_keyword = refl; no_end = refl; no_bracket = refl; no_elif = refl; no_else = refl; no_except = refl; in_block = refl }
no-mark (sign S.Minus) h = record { no_keyword = refl; no_end = refl; no_bracket = refl; no_elif = refl; no_else = refl; no_except = refl; in_block = refl }
no-mark (sign S.Tilde) h = record { no_keyword = refl; no_end = refl; no_bracket = refl; no_elif = refl; no_else = refl; no_except = refl; in_block = refl }
no-mark s h = absurd cc
