-- How large trees are, which is what a run goes down by. A node counts 8, so that a call that is passed the same tree can
-- come below its caller.
use Rattle.std.specs.Prelude.{ℕ, ◌+◌, List, [], ◌∷◌, Option, Some, None}
use Rattle.kern_syntax.specs.Tree.{Expression, integer, true_literal, false_literal, variable, element, group, unary, binary, compare, negation, conjunction, disjunction, call, method, Arguments, no_more, value_then, text_then, Statement, pass, break, continue, return, evaluate, assign, assign_element, augment, augment_element, assign_repeated, assign_list, if_then, while_do, for_range, parallel, sequential, record_as, try_do, Block, done, line_then, Otherwise, no_else, else_do, elif_then, Handlers, no_handler, except_then, ProgramTree}

abbrev mutual
  -- an expression's size
  pub expression_size : Expression → ℕ
  expression_size (integer n) = 8
  expression_size true_literal = 8
  expression_size false_literal = 8
  expression_size (variable x) = 8
  expression_size (element x i) = 8 + expression_size i
  expression_size (group e) = 8 + expression_size e
  expression_size (unary op e) = 8 + expression_size e
  expression_size (binary op a b) = 8 + (expression_size a + expression_size b)
  expression_size (compare op a b) = 8 + (expression_size a + expression_size b)
  expression_size (negation e) = 8 + expression_size e
  expression_size (conjunction a b) = 8 + (expression_size a + expression_size b)
  expression_size (disjunction a b) = 8 + (expression_size a + expression_size b)
  expression_size (call f args) = 8 + arguments_size args
  expression_size (method o m args) = 8 + arguments_size args

  -- that of arguments
  pub arguments_size : Arguments → ℕ
  arguments_size no_more = 0
  arguments_size (value_then e rest) = 8 + (expression_size e + arguments_size rest)
  arguments_size (text_then text rest) = 8 + arguments_size rest

-- that of an expression that may be missing
abbrev pub optional_size : Option Expression → ℕ
optional_size None = 0
optional_size (Some e) = expression_size e

-- that of some expressions
abbrev pub expressions_size : List Expression → ℕ
expressions_size [] = 0
expressions_size (e ∷ es) = 8 + (expression_size e + expressions_size es)

abbrev mutual
  -- that of a statement
  pub statement_size : Statement → ℕ
  statement_size pass = 8
  statement_size break = 8
  statement_size continue = 8
  statement_size (return e) = 8 + optional_size e
  statement_size (evaluate e) = 8 + expression_size e
  statement_size (assign x e) = 8 + expression_size e
  statement_size (assign_element x i e) = 8 + (expression_size i + expression_size e)
  statement_size (augment x op e) = 8 + expression_size e
  statement_size (augment_element x i op e) = 8 + (expression_size i + expression_size e)
  statement_size (assign_repeated x e n) = 8 + expression_size e
  statement_size (assign_list x es) = 8 + expressions_size es
  statement_size (if_then c b rest) = 8 + (expression_size c + (block_size b + otherwise_size rest))
  statement_size (while_do c b) = 8 + (expression_size c + block_size b)
  statement_size (for_range x from to b) = 8 + (optional_size from + (expression_size to + block_size b))
  statement_size (parallel b) = 8 + block_size b
  statement_size (sequential b) = 8 + block_size b
  statement_size (record_as text b) = 8 + block_size b
  statement_size (try_do b handlers) = 8 + (block_size b + handlers_size handlers)

  -- that of a block
  pub block_size : Block → ℕ
  block_size done = 0
  block_size (line_then line s rest) = 8 + (statement_size s + block_size rest)

  -- that of the further branches of an `if`
  pub otherwise_size : Otherwise → ℕ
  otherwise_size no_else = 0
  otherwise_size (else_do b) = 8 + block_size b
  otherwise_size (elif_then line c b rest) = 8 + (expression_size c + (block_size b + otherwise_size rest))

  -- that of the `except` branches of a `try`
  pub handlers_size : Handlers → ℕ
  handlers_size no_handler = 0
  handlers_size (except_then line x b rest) = 8 + (block_size b + handlers_size rest)

-- that of the functions of a program
abbrev pub program_size : ProgramTree → ℕ
program_size [] = 8
program_size (f ∷ rest) = 8 + (block_size f.body + program_size rest)
