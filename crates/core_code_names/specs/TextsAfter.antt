-- The texts that are known after a part of a program, in the order in which its code uses them.
use Rattle.std.specs.Prelude.{List, [], ◌∷◌, Option, Some, None}
use Rattle.kern_syntax.specs.Tree.{Bytes, Expression, element, group, unary, binary, compare, negation}
use Rattle.kern_syntax.specs.Tree.{conjunction, disjunction, call, method, Arguments, no_more, value_then}
use Rattle.kern_syntax.specs.Tree.{text_then, Statement, return, evaluate, assign, assign_element, augment}
use Rattle.kern_syntax.specs.Tree.{augment_element, assign_repeated, assign_list, if_then, while_do, for_range}
use Rattle.kern_syntax.specs.Tree.{parallel, sequential, record_as, try_do, Block, done, line_then, Otherwise}
use Rattle.kern_syntax.specs.Tree.{no_else, else_do, elif_then, Handlers, no_handler, except_then, ProgramTree}
use Rattle.kern_expression_types.specs.Before.{with_member}

abbrev mutual
  -- after an expression
  pub texts_after_expression : Expression → List Bytes → List Bytes
  texts_after_expression (element x i) known = texts_after_expression i known
  texts_after_expression (group e) known = texts_after_expression e known
  texts_after_expression (unary op e) known = texts_after_expression e known
  texts_after_expression (binary op a b) known = texts_after_expression b (texts_after_expression a known)
  texts_after_expression (compare op a b) known = texts_after_expression b (texts_after_expression a known)
  texts_after_expression (negation e) known = texts_after_expression e known
  texts_after_expression (conjunction a b) known = texts_after_expression b (texts_after_expression a known)
  texts_after_expression (disjunction a b) known = texts_after_expression b (texts_after_expression a known)
  texts_after_expression (call f args) known = texts_after_arguments args known
  texts_after_expression (method o m args) known = texts_after_arguments args known
  texts_after_expression _ known = known

  -- after the arguments of a call
  pub texts_after_arguments : Arguments → List Bytes → List Bytes
  texts_after_arguments no_more known = known
  texts_after_arguments (value_then e rest) known = texts_after_arguments rest (texts_after_expression e known)
  texts_after_arguments (text_then text rest) known = texts_after_arguments rest (with_member known text)

-- after an expression that may be missing
abbrev pub texts_after_option : Option Expression → List Bytes → List Bytes
texts_after_option None known = known
texts_after_option (Some e) known = texts_after_expression e known

-- after some expressions
abbrev pub texts_after_list : List Expression → List Bytes → List Bytes
texts_after_list [] known = known
texts_after_list (e ∷ rest) known = texts_after_list rest (texts_after_expression e known)

abbrev mutual
  -- after a statement
  pub texts_after : Statement → List Bytes → List Bytes
  texts_after (return e) known = texts_after_option e known
  texts_after (evaluate e) known = texts_after_expression e known
  texts_after (assign x e) known = texts_after_expression e known
  texts_after (assign_element x i e) known = texts_after_expression i (texts_after_expression e known)
  texts_after (augment x op e) known = texts_after_expression e known
  texts_after (augment_element x i op e) known = texts_after_expression e (texts_after_expression i known)
  texts_after (assign_repeated x e n) known = texts_after_expression e known
  texts_after (assign_list x es) known = texts_after_list es known
  texts_after (if_then c b rest) known =
      texts_after_otherwise rest (texts_after_block b (texts_after_expression c known))
  texts_after (while_do c b) known = texts_after_expression c (texts_after_block b known)
  texts_after (for_range x from to b) known =
      texts_after_block b (texts_after_expression to (texts_after_option from known))
  texts_after (parallel b) known = texts_after_block b known
  texts_after (sequential b) known = texts_after_block b known
  texts_after (record_as name b) known = texts_after_block b (with_member known name)
  texts_after (try_do b handlers) known = texts_after_handlers handlers (texts_after_block b known)
  texts_after _ known = known

  -- after a block
  pub texts_after_block : Block → List Bytes → List Bytes
  texts_after_block done known = known
  texts_after_block (line_then line s rest) known = texts_after_block rest (texts_after s known)

  -- after the further branches of an `if`
  pub texts_after_otherwise : Otherwise → List Bytes → List Bytes
  texts_after_otherwise no_else known = known
  texts_after_otherwise (else_do b) known = texts_after_block b known
  texts_after_otherwise (elif_then line c b rest) known =
      texts_after_otherwise rest (texts_after_block b (texts_after_expression c known))

  -- after handlers
  pub texts_after_handlers : Handlers → List Bytes → List Bytes
  texts_after_handlers no_handler known = known
  texts_after_handlers (except_then line x b rest) known = texts_after_handlers rest (texts_after_block b known)

-- after the functions of a program
abbrev pub texts_after_program : ProgramTree → List Bytes → List Bytes
texts_after_program [] known = known
texts_after_program (f ∷ rest) known = texts_after_program rest (texts_after_block f.body known)
