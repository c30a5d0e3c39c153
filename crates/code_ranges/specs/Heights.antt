-- How many operands the code of an expression has at most, above those before it.
use Rattle.std.specs.Prelude.{ℕ, ◌+◌, max}
use Rattle.kern_syntax.specs.Tree.{Expression, integer, true_literal, false_literal, variable, element}
use Rattle.kern_syntax.specs.Tree.{group, unary, binary, compare, negation, conjunction, disjunction}
use Rattle.kern_syntax.specs.Tree.{call, method, Arguments, no_more, value_then, text_then}
use Rattle.code_forms.specs.ExpressionCode.{numbers_in}

-- a bound for the operands of the instructions of any one operator or call, and for how many these are
abbrev pub most_own : ℕ
most_own = 14

abbrev mutual
  -- of an expression
  pub expression_height : Expression → ℕ
  expression_height (integer n) = most_own
  expression_height true_literal = most_own
  expression_height false_literal = most_own
  expression_height (variable x) = most_own
  expression_height (element x i) = max (expression_height i) most_own
  expression_height (group e) = expression_height e
  expression_height (unary op e) = max (expression_height e) most_own
  expression_height (binary op a b) = max (expression_height a) (max (1 + expression_height b) most_own)
  expression_height (compare op a b) = max (expression_height a) (max (1 + expression_height b) most_own)
  expression_height (negation e) = max (expression_height e) most_own
  expression_height (conjunction a b) = max (expression_height a) (max (expression_height b) most_own)
  expression_height (disjunction a b) = max (expression_height a) (max (expression_height b) most_own)
  expression_height (call f args) = max (arguments_height args) (numbers_in args + most_own)
  expression_height (method o m args) = max (arguments_height args) (numbers_in args + most_own)

  -- of the arguments of a call, which lie on one another
  pub arguments_height : Arguments → ℕ
  arguments_height no_more = 0
  arguments_height (value_then e rest) = max (expression_height e) (1 + arguments_height rest)
  arguments_height (text_then text rest) = arguments_height rest
