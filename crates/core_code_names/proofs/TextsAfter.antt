-- The texts that are known after a part are those before it with the part's own behind them.
use Rattle.std.proofs.Common.{◌≡◌, List, [], ◌∷◌, ◌++◌, Option, Some, None, refl, sym, ◌∙◌, ap}
use Rattle.kern_syntax.specs.Tree.{Bytes, Expression, integer, true_literal, false_literal, variable, element, group, unary, binary, compare, negation, conjunction, disjunction, call, method, Arguments, no_more, value_then, text_then, Statement, pass, break, continue, return, evaluate, assign, assign_element, augment, augment_element, assign_repeated, assign_list, if_then, while_do, for_range, parallel, sequential, record_as, try_do, Block, done, line_then, Otherwise, no_else, else_do, elif_then, Handlers, no_handler, except_then, ProgramTree}
use Rattle.kern_expression_types.specs.Before.{with_member}
use Rattle.code_forms.specs.Texts.{with_texts, texts_of, expression_texts, argument_texts, option_texts, list_texts, statement_texts, block_texts, otherwise_texts, handler_texts, program_texts}
use Rattle.core_code_names.specs.TextsAfter.{texts_after_expression, texts_after_arguments, texts_after_option, texts_after_list, texts_after, texts_after_block, texts_after_otherwise, texts_after_handlers, texts_after_program}

appended : (known a b : List Bytes) → with_texts known (a ++ b) ≡ with_texts (with_texts known a) b
appended known [] b = refl
appended known (text ∷ a) b = appended (with_member known text) a b

-- one part and then another
both : (f g : List Bytes → List Bytes) (a b : List Bytes) (known : List Bytes) → f known ≡ with_texts known a → ((k : List Bytes) → g k ≡ with_texts k b) → g (f known) ≡ with_texts known (a ++ b)
both f g a b known first second = ap g first ∙ second (with_texts known a) ∙ sym (appended known a b)

mutual
  expression_after : (e : Expression) (known : List Bytes) → texts_after_expression e known ≡ with_texts known (expression_texts e)
  expression_after (integer n) known = refl
  expression_after true_literal known = refl
  expression_after false_literal known = refl
  expression_after (variable x) known = refl
  expression_after (element x i) known = expression_after i known
  expression_after (group e) known = expression_after e known
  expression_after (unary op e) known = expression_after e known
  expression_after (binary op a b) known = both (texts_after_expression a) (texts_after_expression b) (expression_texts a) (expression_texts b) known (expression_after a known) (expression_after b)
  expression_after (compare op a b) known = both (texts_after_expression a) (texts_after_expression b) (expression_texts a) (expression_texts b) known (expression_after a known) (expression_after b)
  expression_after (negation e) known = expression_after e known
  expression_after (conjunction a b) known = both (texts_after_expression a) (texts_after_expression b) (expression_texts a) (expression_texts b) known (expression_after a known) (expression_after b)
  expression_after (disjunction a b) known = both (texts_after_expression a) (texts_after_expression b) (expression_texts a) (expression_texts b) known (expression_after a known) (expression_after b)
  expression_after (call f args) known = arguments_after args known
  expression_after (method o m args) known = arguments_after args known

  arguments_after : (args : Arguments) (known : List Bytes) → texts_after_arguments args known ≡ with_texts known (argument_texts args)
  arguments_after no_more known = refl
  arguments_after (value_then e rest) known = both (texts_after_expression e) (texts_after_arguments rest) (expression_texts e) (argument_texts rest) known (expression_after e known) (arguments_after rest)
  arguments_after (text_then text rest) known = arguments_after rest (with_member known text)

option_after : (o : Option Expression) (known : List Bytes) → texts_after_option o known ≡ with_texts known (option_texts o)
option_after None known = refl
option_after (Some e) known = expression_after e known

list_after : (es : List Expression) (known : List Bytes) → texts_after_list es known ≡ with_texts known (list_texts es)
list_after [] known = refl
list_after (e ∷ rest) known = both (texts_after_expression e) (texts_after_list rest) (expression_texts e) (list_texts rest) known (expression_after e known) (list_after rest)

mutual
  statement_after : (s : Statement) (known : List Bytes) → texts_after s known ≡ with_texts known (statement_texts s)
  statement_after pass known = refl
  statement_after break known = refl
  statement_after continue known = refl
  statement_after (return e) known = option_after e known
  statement_after (evaluate e) known = expression_after e known
  statement_after (assign x e) known = expression_after e known
  statement_after (assign_element x i e) known = both (texts_after_expression e) (texts_after_expression i) (expression_texts e) (expression_texts i) known (expression_after e known) (expression_after i)
  statement_after (augment x op e) known = expression_after e known
  statement_after (augment_element x i op e) known = both (texts_after_expression i) (texts_after_expression e) (expression_texts i) (expression_texts e) known (expression_after i known) (expression_after e)
  statement_after (assign_repeated x e n) known = expression_after e known
  statement_after (assign_list x es) known = list_after es known
  statement_after (if_then c b rest) known =
      both (λ k. texts_after_block b (texts_after_expression c k)) (texts_after_otherwise rest) (expression_texts c ++ block_texts b) (otherwise_texts rest) known
      (both (texts_after_expression c) (texts_after_block b) (expression_texts c) (block_texts b) known (expression_after c known) (block_after b))
      (otherwise_after rest)
  statement_after (while_do c b) known = both (texts_after_block b) (texts_after_expression c) (block_texts b) (expression_texts c) known (block_after b known) (expression_after c)
  statement_after (for_range x from to b) known =
      both (λ k. texts_after_expression to (texts_after_option from k)) (texts_after_block b) (option_texts from ++ expression_texts to) (block_texts b) known
      (both (texts_after_option from) (texts_after_expression to) (option_texts from) (expression_texts to) known (option_after from known) (expression_after to))
      (block_after b)
  statement_after (parallel b) known = block_after b known
  statement_after (sequential b) known = block_after b known
  statement_after (record_as name b) known = block_after b (with_member known name)
  statement_after (try_do b handlers) known = both (texts_after_block b) (texts_after_handlers handlers) (block_texts b) (handler_texts handlers) known (block_after b known) (handlers_after handlers)

  block_after : (b : Block) (known : List Bytes) → texts_after_block b known ≡ with_texts known (block_texts b)
  block_after done known = refl
  block_after (line_then line s rest) known = both (texts_after s) (texts_after_block rest) (statement_texts s) (block_texts rest) known (statement_after s known) (block_after rest)

  otherwise_after : (rest : Otherwise) (known : List Bytes) → texts_after_otherwise rest known ≡ with_texts known (otherwise_texts rest)
  otherwise_after no_else known = refl
  otherwise_after (else_do b) known = block_after b known
  otherwise_after (elif_then line c b rest) known =
      both (λ k. texts_after_block b (texts_after_expression c k)) (texts_after_otherwise rest) (expression_texts c ++ block_texts b) (otherwise_texts rest) known
      (both (texts_after_expression c) (texts_after_block b) (expression_texts c) (block_texts b) known (expression_after c known) (block_after b))
      (otherwise_after rest)

  handlers_after : (handlers : Handlers) (known : List Bytes) → texts_after_handlers handlers known ≡ with_texts known (handler_texts handlers)
  handlers_after no_handler known = refl
  handlers_after (except_then line x b rest) known = both (texts_after_block b) (texts_after_handlers rest) (block_texts b) (handler_texts rest) known (block_after b known) (handlers_after rest)

program_after : (program : ProgramTree) (known : List Bytes) → texts_after_program program known ≡ with_texts known (program_texts program)
program_after [] known = refl
program_after (f ∷ rest) known = both (texts_after_block f.body) (texts_after_program rest) (block_texts f.body) (program_texts rest) known (block_after f.body known) (program_after rest)

-- the texts after a whole program are its texts
pub program_texts_after : (program : ProgramTree) → texts_after_program program [] ≡ texts_of program
program_texts_after program = program_after program []
