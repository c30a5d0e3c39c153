-- The texts of a spelled program are names that an image may have.
use Rattle.std.proofs.Common.{◌≡◌, ℕ, ◌+◌, ◌≤◌, List, [], ◌∷◌, ◌++◌, length, Option, Some, None, refl, ◌∙◌, arith, length-append}
use Rattle.std.specs.Prelude.{Bool, true, false, ◌||◌, ◌&&◌, ◌==◌, nat_le, if◌then◌else◌}
use Rattle.std.specs.List.{list_all}
use Rattle.std.proofs.lemmas.Bool.{and_parts, and_from}
use Rattle.std.proofs.lemmas.List.Folds.{list_all-append}
use Rattle.rtio_types.specs.Names as N
use Rattle.kern_lexer.specs.Bytes as L
use Rattle.kern_lexer.specs.Names.{is_quotable}
use Rattle.kern_syntax.specs.Spellable.{IsSpellable, AreSpellable, IfThereSpellable, EachSpellable, IsSpellableStatement, AreSpellableLines, AreSpellableBranches, AreSpellableHandlers, IsSpellableProgram}
use Rattle.kern_syntax.specs.Tree as T
use Rattle.kern_syntax.specs.Tree.{Bytes, Expression, integer, true_literal, false_literal, variable, element, group, unary, binary, compare, negation, conjunction, disjunction, call, method, Arguments, no_more, value_then, text_then, Statement, pass, evaluate, assign, assign_element, augment, augment_element, assign_repeated, assign_list, if_then, while_do, for_range, parallel, sequential, record_as, try_do, Block, done, line_then, Otherwise, no_else, else_do, elif_then, Handlers, no_handler, except_then, ProgramTree}
use Rattle.kern_expression_types.specs.Before.{is_in, with_member}
use Rattle.code_forms.specs.Texts.{expression_texts, argument_texts, option_texts, list_texts, statement_texts, block_texts, otherwise_texts, handler_texts, program_texts, with_texts, texts_of}

-- the bytes of a text in quotes are those of a name
any_of : (a b c u : Bool) → (((a || b) || c) || u) ≡ true → (a || (b || (u || c))) ≡ true
any_of true b c u e = refl
any_of false true c u e = refl
any_of false false c true e = refl
any_of false false true false e = refl
any_of false false false false e = e

word_byte : (b : ℕ) → L.is_word_byte b ≡ true → N.is_word_byte b ≡ true
word_byte b e = any_of (nat_le 48 b && nat_le b 57) (nat_le 65 b && nat_le b 90) (nat_le 97 b && nat_le b 122) (b == 95) e

word_bytes : (text : List ℕ) → list_all L.is_word_byte text ≡ true → list_all N.is_word_byte text ≡ true
word_bytes [] e = refl
word_bytes (b ∷ text) e =
    let p = and_parts (L.is_word_byte b) (list_all L.is_word_byte text) e in
    and_from (N.is_word_byte b) (list_all N.is_word_byte text) (word_byte b p.0) (word_bytes text p.1)

named : (text : Bytes) → is_quotable text ≡ true → N.is_name text ≡ true
named text e =
    let p = and_parts (nat_le 1 (length text) && nat_le (length text) 32) (list_all L.is_word_byte text) e in
    let q = and_parts (nat_le 1 (length text)) (nat_le (length text) 32) p.0 in
    and_from (nat_le 1 (length text)) (nat_le (length text) 32 && list_all N.is_word_byte text) q.0 (and_from (nat_le (length text) 32) (list_all N.is_word_byte text) q.1 (word_bytes text p.1))

-- each of some texts is one
abbrev AreNames : List Bytes → Type 0
AreNames texts = list_all N.is_name texts ≡ true

both : (a b : List Bytes) → AreNames a → AreNames b → AreNames (a ++ b)
both a b p q = list_all-append N.is_name a b ∙ and_from (list_all N.is_name a) (list_all N.is_name b) p q

one_name : (text : Bytes) (rest : List Bytes) → is_quotable text ≡ true → AreNames rest → AreNames (text ∷ rest)
one_name text rest e r = and_from (N.is_name text) (list_all N.is_name rest) (named text e) r

mutual
  expression_named : (e : Expression) → IsSpellable e → AreNames (expression_texts e)
  expression_named (integer n) s = refl
  expression_named true_literal s = refl
  expression_named false_literal s = refl
  expression_named (variable x) s = refl
  expression_named (element x i) s = expression_named i s.1
  expression_named (group e) s = expression_named e s
  expression_named (unary op e) s = expression_named e s
  expression_named (binary op a b) s = both (expression_texts a) (expression_texts b) (expression_named a s.0) (expression_named b s.1)
  expression_named (compare op a b) s = both (expression_texts a) (expression_texts b) (expression_named a s.0) (expression_named b s.1)
  expression_named (negation e) s = expression_named e s
  expression_named (conjunction a b) s = both (expression_texts a) (expression_texts b) (expression_named a s.0) (expression_named b s.1)
  expression_named (disjunction a b) s = both (expression_texts a) (expression_texts b) (expression_named a s.0) (expression_named b s.1)
  expression_named (call f args) s = arguments_named args s.1
  expression_named (method o m args) s = arguments_named args s.2

  arguments_named : (args : Arguments) → AreSpellable args → AreNames (argument_texts args)
  arguments_named no_more s = refl
  arguments_named (value_then e rest) s = both (expression_texts e) (argument_texts rest) (expression_named e s.0) (arguments_named rest s.1)
  arguments_named (text_then text rest) s = one_name text (argument_texts rest) s.0 (arguments_named rest s.1)

option_named : (e : Option Expression) → IfThereSpellable e → AreNames (option_texts e)
option_named None s = refl
option_named (Some e) s = expression_named e s

list_named : (es : List Expression) → EachSpellable es → AreNames (list_texts es)
list_named [] s = refl
list_named (e ∷ es) s = both (expression_texts e) (list_texts es) (expression_named e s.0) (list_named es s.1)

mutual
  statement_named : (st : Statement) → IsSpellableStatement st → AreNames (statement_texts st)
  statement_named pass s = refl
  statement_named T.break s = refl
  statement_named T.continue s = refl
  statement_named (T.return e) s = option_named e s
  statement_named (evaluate e) s = expression_named e s
  statement_named (assign x e) s = expression_named e s.1
  statement_named (assign_element x i e) s = both (expression_texts e) (expression_texts i) (expression_named e s.2) (expression_named i s.1)
  statement_named (augment x op e) s = expression_named e s.1
  statement_named (augment_element x i op e) s = both (expression_texts i) (expression_texts e) (expression_named i s.1) (expression_named e s.2)
  statement_named (assign_repeated x e n) s = expression_named e s.1
  statement_named (assign_list x es) s = list_named es s.1
  statement_named (if_then c b rest) s = both (expression_texts c ++ block_texts b) (otherwise_texts rest) (both (expression_texts c) (block_texts b) (expression_named c s.0) (block_named b s.1)) (otherwise_named rest s.2)
  statement_named (while_do c b) s = both (block_texts b) (expression_texts c) (block_named b s.1) (expression_named c s.0)
  statement_named (for_range x from to b) s = both (option_texts from ++ expression_texts to) (block_texts b) (both (option_texts from) (expression_texts to) (option_named from s.1) (expression_named to s.2)) (block_named b s.3)
  statement_named (parallel b) s = block_named b s
  statement_named (sequential b) s = block_named b s
  statement_named (record_as name b) s = one_name name (block_texts b) s.0 (block_named b s.1)
  statement_named (try_do b handlers) s = both (block_texts b) (handler_texts handlers) (block_named b s.0) (handlers_named handlers s.1)

  block_named : (b : Block) → AreSpellableLines b → AreNames (block_texts b)
  block_named done s = refl
  block_named (line_then ln st rest) s = both (statement_texts st) (block_texts rest) (statement_named st s.0) (block_named rest s.1)

  otherwise_named : (rest : Otherwise) → AreSpellableBranches rest → AreNames (otherwise_texts rest)
  otherwise_named no_else s = refl
  otherwise_named (else_do b) s = block_named b s
  otherwise_named (elif_then ln c b rest) s = both (expression_texts c ++ block_texts b) (otherwise_texts rest) (both (expression_texts c) (block_texts b) (expression_named c s.0) (block_named b s.1)) (otherwise_named rest s.2)

  handlers_named : (handlers : Handlers) → AreSpellableHandlers handlers → AreNames (handler_texts handlers)
  handlers_named no_handler s = refl
  handlers_named (except_then ln x b rest) s = both (block_texts b) (handler_texts rest) (block_named b s.1) (handlers_named rest s.2)

program_named : (p : ProgramTree) → IsSpellableProgram p → AreNames (program_texts p)
program_named [] s = refl
program_named (f ∷ p) s = both (block_texts f.body) (program_texts p) (block_named f.body s.0.2) (program_named p s.1)

-- each once
member_named : (known : List Bytes) (text : Bytes) → AreNames known → N.is_name text ≡ true → AreNames (with_member known text)
member_named known text k e = by_test (is_in known text)
  where
    by_test : (b : Bool) → AreNames (if b then known else known ++ text ∷ [])
    by_test true = k
    by_test false = both known (text ∷ []) k (and_from (N.is_name text) true e refl)

with_named : (known texts : List Bytes) → AreNames known → AreNames texts → AreNames (with_texts known texts)
with_named known [] k r = k
with_named known (text ∷ texts) k r =
    let p = and_parts (N.is_name text) (list_all N.is_name texts) r in
    with_named (with_member known text) texts (member_named known text k p.0) p.1

pub texts_named : (p : ProgramTree) → IsSpellableProgram p → list_all N.is_name (texts_of p) ≡ true
texts_named p s = with_named [] (program_texts p) refl (program_named p s)

-- there are no more than all texts
member_long : (known : List Bytes) (text : Bytes) → length (with_member known text) ≤ length known + 1
member_long known text = by_test (is_in known text)
  where
    by_test : (b : Bool) → length (if b then known else known ++ text ∷ []) ≤ length known + 1
    by_test true = omega arith
    by_test false = omega (arith, length-append known (text ∷ []))

with_long : (known texts : List Bytes) → length (with_texts known texts) ≤ length known + length texts
with_long known [] = omega arith
with_long known (text ∷ texts) = omega (arith, member_long known text, with_long (with_member known text) texts)

pub texts_long : (p : ProgramTree) → length (texts_of p) ≤ length (program_texts p)
texts_long p = omega (arith, with_long [] (program_texts p))
