-- The texts of a program: the names of its recordings and datasets.
use Rattle.std.specs.Prelude.{List, [], ◌∷◌, ◌++◌, Option, Some, None}
use Rattle.kern_syntax.specs.Tree.{Bytes, Expression, element, group, unary, binary, compare, negation}
use Rattle.kern_syntax.specs.Tree.{conjunction, disjunction, call, method, Arguments, no_more, value_then}
use Rattle.kern_syntax.specs.Tree.{text_then, Statement, return, evaluate, assign, assign_element, augment}
use Rattle.kern_syntax.specs.Tree.{augment_element, assign_repeated, assign_list, if_then, while_do, for_range}
use Rattle.kern_syntax.specs.Tree.{parallel, sequential, record_as, try_do, Block, done, line_then, Otherwise}
use Rattle.kern_syntax.specs.Tree.{no_else, else_do, elif_then, Handlers, no_handler, except_then, ProgramTree}
use Rattle.kern_types.specs.Plain.{with_member}

abbrev mutual
  -- the texts of an expression, in order
  pub expression_texts : Expression → List Bytes
  expression_texts (element x i) = expression_texts i
  expression_texts (group e) = expression_texts e
  expression_texts (unary op e) = expression_texts e
  expression_texts (binary op a b) = expression_texts a ++ expression_texts b
  expression_texts (compare op a b) = expression_texts a ++ expression_texts b
  expression_texts (negation e) = expression_texts e
  expression_texts (conjunction a b) = expression_texts a ++ expression_texts b
  expression_texts (disjunction a b) = expression_texts a ++ expression_texts b
  expression_texts (call f args) = argument_texts args
  expression_texts (method o m args) = argument_texts args
  expression_texts _ = []

  -- the texts of a call's arguments
  pub argument_texts : Arguments → List Bytes
  argument_texts no_more = []
  argument_texts (value_then e rest) = expression_texts e ++ argument_texts rest
  argument_texts (text_then text rest) = text ∷ argument_texts rest

-- the texts of an expression that may be missing
abbrev pub option_texts : Option Expression → List Bytes
option_texts None = []
option_texts (Some e) = expression_texts e

-- the texts of some expressions
abbrev pub list_texts : List Expression → List Bytes
list_texts [] = []
list_texts (e ∷ rest) = expression_texts e ++ list_texts rest

abbrev mutual
  -- the texts of a statement
  pub statement_texts : Statement → List Bytes
  statement_texts (return e) = option_texts e
  statement_texts (evaluate e) = expression_texts e
  statement_texts (assign x e) = expression_texts e
  statement_texts (assign_element x i e) = expression_texts e ++ expression_texts i
  statement_texts (augment x op e) = expression_texts e
  statement_texts (augment_element x i op e) = expression_texts i ++ expression_texts e
  statement_texts (assign_repeated x e n) = expression_texts e
  statement_texts (assign_list x es) = list_texts es
  statement_texts (if_then c b rest) = expression_texts c ++ block_texts b ++ otherwise_texts rest
  statement_texts (while_do c b) = block_texts b ++ expression_texts c
  statement_texts (for_range x from to b) = option_texts from ++ expression_texts to ++ block_texts b
  statement_texts (parallel b) = block_texts b
  statement_texts (sequential b) = block_texts b
  statement_texts (record_as name b) = name ∷ block_texts b
  statement_texts (try_do b handlers) = block_texts b ++ handler_texts handlers
  statement_texts _ = []

  -- the texts of a block
  pub block_texts : Block → List Bytes
  block_texts done = []
  block_texts (line_then line s rest) = statement_texts s ++ block_texts rest

  -- the texts of the further branches of an `if`
  pub otherwise_texts : Otherwise → List Bytes
  otherwise_texts no_else = []
  otherwise_texts (else_do b) = block_texts b
  otherwise_texts (elif_then line c b rest) = expression_texts c ++ block_texts b ++ otherwise_texts rest

  -- the texts of handlers
  pub handler_texts : Handlers → List Bytes
  handler_texts no_handler = []
  handler_texts (except_then line x b rest) = block_texts b ++ handler_texts rest

-- the texts of a program's functions
abbrev pub program_texts : ProgramTree → List Bytes
program_texts [] = []
program_texts (f ∷ rest) = block_texts f.body ++ program_texts rest

-- further texts behind those that are there, each only where it is new
abbrev pub with_texts : List Bytes → List Bytes → List Bytes
with_texts known [] = known
with_texts known (text ∷ rest) = with_texts (with_member known text) rest

-- the texts of a program, each once, in the order in which they stand first
abbrev pub texts_of : ProgramTree → List Bytes
texts_of program = with_texts [] (program_texts program)
