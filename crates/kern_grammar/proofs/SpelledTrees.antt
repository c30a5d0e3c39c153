-- Tokens that a text can have give trees whose names, texts and integers are those of tokens.
use Rattle.std.proofs.Common.{◌≡◌, ◌^◌, List, [], ◌∷◌, ◌++◌, refl, sym, ◌∙◌, ap, subst, inl, inr}
use Rattle.std.proofs.lemmas.Bool.{and_parts, ltb-true}
use Rattle.std.proofs.lemmas.List.{map-append}
use Rattle.std.proofs.lemmas.List.Folds.{list_all-append}
use Rattle.std.specs.List.{list_all}
use Rattle.std.specs.Prelude.{IsTrue, Option, Some, None, codes}
use Rattle.kern_lexer.specs.Symbols.{Symbol, Lexeme, name, key, number, quoted, sign, newline}
use Rattle.kern_lexer.specs.declared.token.Key.TheVariants as K
use Rattle.kern_lexer.specs.declared.token.Sign.TheVariants as S
use Rattle.kern_syntax.specs.Print.{name_of_type}
use Rattle.kern_syntax.specs.Spellable.{IsName, IsNumber, IsSpellable, AreSpellable, IfThereSpellable, EachSpellable, IsSpellableStatement, AreSpellableLines, AreSpellableBranches, AreSpellableHandlers, AreParametersSpellable, IsSpellableFunction, IsSpellableProgram}
use Rattle.kern_syntax.specs.Tree.{Bytes, Expression, integer, true_literal, false_literal, variable, element, group, unary, binary, compare, negation, conjunction, disjunction, call, method, Arguments, no_more, value_then, text_then, Statement, pass, break, continue, return, evaluate, assign, assign_element, augment, augment_element, assign_repeated, assign_list, if_then, while_do, for_range, parallel, sequential, record_as, try_do, Block, done, line_then, Otherwise, no_else, else_do, elif_then, Handlers, no_handler, except_then, ParameterTree, FunctionTree, ProgramTree}
use Rattle.kern_grammar.specs.Blocks.{header, body, statement, lines, branches, excepts, range_symbols, record_symbols, parameter_symbols, result_symbols, function, function_symbols, program}
use Rattle.kern_grammar.specs.Expressions.{expression_symbols, argument_symbols, list_symbols, comma_before, in_parentheses, in_brackets}
use Rattle.kern_grammar.specs.Phrases.{symbols_of, ◌⨾◌, simple_line}
use Rattle.kern_grammar.specs.Simple.{augment_sign, optional_symbols}
use Rattle.kern_grammar.specs.Spelled.{is_spelled}

-- each symbol is one that a text can have
abbrev pub Spelled : List Symbol → Type 0
Spelled symbols = IsTrue (list_all is_spelled symbols)

-- the two parts of symbols
parts : (a b : List Symbol) → Spelled (a ++ b) → Spelled a × Spelled b
parts a b h = and_parts (list_all is_spelled a) (list_all is_spelled b) (sym (list_all-append is_spelled a b) ∙ h)

-- the first symbol and those behind it
split : (s : Symbol) (rest : List Symbol) → Spelled (s ∷ rest) → IsTrue (is_spelled s) × Spelled rest
split s rest h = and_parts (is_spelled s) (list_all is_spelled rest) h

-- what stands before symbols that end with one that is always spelled
before_last : (a : List Symbol) (s : Symbol) → Spelled (a ++ s ∷ []) → Spelled a
before_last a s h = (parts a (s ∷ []) h).0

number_spelled : (n : _) → IsTrue (is_spelled (number n)) → IsNumber n
number_spelled n h = ltb-true n (2 ^ 63) h

behind_comma : (rest : List Symbol) → Spelled (comma_before rest) → Spelled rest
behind_comma [] h = h
behind_comma (s ∷ rest) h = h

mutual
  pub expression_spelled : (e : Expression) → Spelled (expression_symbols e) → IsSpellable e
  expression_spelled (integer n) h = number_spelled n (split (number n) [] h).0
  expression_spelled true_literal h = tt
  expression_spelled false_literal h = tt
  expression_spelled (variable x) h = (split (name x) [] h).0
  expression_spelled (element x i) h =
      let both = split (name x) (in_brackets (expression_symbols i)) h in
      (both.0, expression_spelled i (before_last (expression_symbols i) (sign S.CloseBracket) both.1))
  expression_spelled (group e) h = expression_spelled e (before_last (expression_symbols e) (sign S.CloseParenthesis) h)
  expression_spelled (unary op e) h = expression_spelled e h
  expression_spelled (binary op a b) h =
      let both = parts (expression_symbols a) (_ ∷ expression_symbols b) h in
      (expression_spelled a both.0, expression_spelled b both.1)
  expression_spelled (compare op a b) h =
      let both = parts (expression_symbols a) (_ ∷ expression_symbols b) h in
      (expression_spelled a both.0, expression_spelled b both.1)
  expression_spelled (negation e) h = expression_spelled e h
  expression_spelled (conjunction a b) h =
      let both = parts (expression_symbols a) (key K.And ∷ expression_symbols b) h in
      (expression_spelled a both.0, expression_spelled b both.1)
  expression_spelled (disjunction a b) h =
      let both = parts (expression_symbols a) (key K.Or ∷ expression_symbols b) h in
      (expression_spelled a both.0, expression_spelled b both.1)
  expression_spelled (call f args) h =
      let both = split (name f) (in_parentheses (argument_symbols args)) h in
      (both.0, arguments_spelled args (before_last (argument_symbols args) (sign S.CloseParenthesis) both.1))
  expression_spelled (method o m args) h =
      let both = split (name o) (sign S.Dot ∷ name m ∷ in_parentheses (argument_symbols args)) h in
      let more = split (name m) (in_parentheses (argument_symbols args)) both.1 in
      (both.0, more.0, arguments_spelled args (before_last (argument_symbols args) (sign S.CloseParenthesis) more.1))

  pub arguments_spelled : (args : Arguments) → Spelled (argument_symbols args) → AreSpellable args
  arguments_spelled no_more h = tt
  arguments_spelled (value_then e rest) h =
      let both = parts (expression_symbols e) (comma_before (argument_symbols rest)) h in
      (expression_spelled e both.0, arguments_spelled rest (behind_comma (argument_symbols rest) both.1))
  arguments_spelled (text_then text rest) h =
      let both = split (quoted text) (comma_before (argument_symbols rest)) h in
      (both.0, arguments_spelled rest (behind_comma (argument_symbols rest) both.1))

list_spelled : (es : List Expression) → Spelled (list_symbols es) → EachSpellable es
list_spelled [] h = tt
list_spelled (e ∷ es) h =
    let both = parts (expression_symbols e) (comma_before (list_symbols es)) h in
    (expression_spelled e both.0, list_spelled es (behind_comma (list_symbols es) both.1))

optional_spelled : (e : Option Expression) → Spelled (optional_symbols e) → IfThereSpellable e
optional_spelled None h = tt
optional_spelled (Some e) h = expression_spelled e h

-- tokens each of which a text can have
abbrev pub AreSpelled : List Lexeme → Type 0
AreSpelled tokens = Spelled (symbols_of tokens)

-- tokens of these symbols
these_spelled : (symbols : List Symbol) (tokens : List Lexeme) → symbols_of tokens ≡ symbols → AreSpelled tokens → Spelled symbols
these_spelled symbols tokens e h = subst Spelled e h

-- tokens of one phrase and then of another
both_spelled : (front back tokens : List Lexeme) → tokens ≡ front ++ back → AreSpelled tokens → AreSpelled front × AreSpelled back
both_spelled front back tokens e h = parts (symbols_of front) (symbols_of back) (subst Spelled (ap symbols_of e ∙ map-append (λ t. t.symbol) front back) h)

-- a statement on one line
line_spelled : (symbols : List Symbol) (tokens : List Lexeme) → symbols_of tokens ≡ symbols ++ newline ∷ [] → AreSpelled tokens → Spelled symbols
line_spelled symbols tokens e h = before_last symbols newline (these_spelled (symbols ++ newline ∷ []) tokens e h)

-- an element of an array that is assigned to, and what stands behind it
element_spelled : (x : Bytes) (i e : Expression) (s : Symbol) → IsTrue (is_spelled s) → Spelled (name x ∷ in_brackets (expression_symbols i) ++ s ∷ expression_symbols e) → IsName x × IsSpellable i × IsSpellable e
element_spelled x i e s k h =
    let both = split (name x) (in_brackets (expression_symbols i) ++ s ∷ expression_symbols e) h in
    let more = parts (in_brackets (expression_symbols i)) (s ∷ expression_symbols e) both.1 in
    (both.0, expression_spelled i (before_last (expression_symbols i) (sign S.CloseBracket) more.0), expression_spelled e (split s (expression_symbols e) more.1).1)

named_spelled : (x : Bytes) (e : Expression) (s : Symbol) → Spelled (name x ∷ s ∷ expression_symbols e) → IsName x × IsSpellable e
named_spelled x e s h =
    let both = split (name x) (s ∷ expression_symbols e) h in
    (both.0, expression_spelled e (split s (expression_symbols e) both.1).1)

repeated_spelled : (x : Bytes) (e : Expression) (n : _) → Spelled (name x ∷ sign S.Assign ∷ in_brackets (expression_symbols e) ++ sign S.Star ∷ number n ∷ []) → IsName x × IsSpellable e × IsNumber n
repeated_spelled x e n h =
    let both = split (name x) (sign S.Assign ∷ in_brackets (expression_symbols e) ++ sign S.Star ∷ number n ∷ []) h in
    let more = parts (in_brackets (expression_symbols e)) (sign S.Star ∷ number n ∷ []) both.1 in
    (both.0, expression_spelled e (before_last (expression_symbols e) (sign S.CloseBracket) more.0), number_spelled n (split (number n) [] more.1).0)

simple_spelled : (s : Statement) (tokens : List Lexeme) → simple_line s tokens → AreSpelled tokens → IsSpellableStatement s
simple_spelled pass tokens l h = tt
simple_spelled break tokens l h = tt
simple_spelled continue tokens l h = tt
simple_spelled (return e) tokens l h = optional_spelled e (line_spelled (key K.Return ∷ optional_symbols e) tokens l h)
simple_spelled (evaluate e) tokens l h = expression_spelled e (line_spelled (expression_symbols e) tokens l h)
simple_spelled (assign x e) tokens l h = named_spelled x e (sign S.Assign) (line_spelled (name x ∷ sign S.Assign ∷ expression_symbols e) tokens l h)
simple_spelled (assign_element x i e) tokens l h = element_spelled x i e (sign S.Assign) refl (line_spelled (name x ∷ in_brackets (expression_symbols i) ++ sign S.Assign ∷ expression_symbols e) tokens l h)
simple_spelled (augment x op e) tokens l h = named_spelled x e (sign (augment_sign op)) (line_spelled (name x ∷ sign (augment_sign op) ∷ expression_symbols e) tokens l h)
simple_spelled (augment_element x i op e) tokens l h = element_spelled x i e (sign (augment_sign op)) refl (line_spelled (name x ∷ in_brackets (expression_symbols i) ++ sign (augment_sign op) ∷ expression_symbols e) tokens l h)
simple_spelled (assign_repeated x e n) tokens l h = repeated_spelled x e n (line_spelled (name x ∷ sign S.Assign ∷ in_brackets (expression_symbols e) ++ sign S.Star ∷ number n ∷ []) tokens l h)
simple_spelled (assign_list x es) tokens l h =
    let both = split (name x) (sign S.Assign ∷ in_brackets (list_symbols es)) (line_spelled (name x ∷ sign S.Assign ∷ in_brackets (list_symbols es)) tokens l h) in
    (both.0, list_spelled es (before_last (list_symbols es) (sign S.CloseBracket) both.1))
simple_spelled (if_then c b rest) tokens l h = absurd l
simple_spelled (while_do c b) tokens l h = absurd l
simple_spelled (for_range x from to b) tokens l h = absurd l
simple_spelled (parallel b) tokens l h = absurd l
simple_spelled (sequential b) tokens l h = absurd l
simple_spelled (record_as text b) tokens l h = absurd l
simple_spelled (try_do b handlers) tokens l h = absurd l

-- a block, where its lines are spellable
body_spelled : (b : Block) → ((tokens : List Lexeme) → lines b tokens → AreSpelled tokens → AreSpellableLines b) → (tokens : List Lexeme) → body b (lines b) tokens → AreSpelled tokens → AreSpellableLines b
body_spelled done each tokens (inl l) h = absurd l
body_spelled (line_then line s done) each tokens (inl l) h = (simple_spelled s tokens l.1 h, tt)
body_spelled (line_then line s (line_then next t rest)) each tokens (inl l) h = absurd l
body_spelled b each tokens (inr l) h =
    let outer = both_spelled l.front l.back tokens l.whole h in
    let inner = both_spelled l.is_second.front l.is_second.back l.back l.is_second.whole outer.1 in
    each l.is_second.front l.is_second.is_first inner.0

-- a header
header_spelled : (symbols : List Symbol) (tokens : List Lexeme) → header symbols tokens → AreSpelled tokens → Spelled symbols
header_spelled symbols tokens l h = before_last symbols (sign S.Colon) (these_spelled (symbols ++ sign S.Colon ∷ []) tokens l h)

-- what a header and a block say
pub record HeaderAndBlock (symbols : List Symbol) (b : Block) : Type 0 where
  pub of_header : Spelled symbols
  pub of_block : AreSpellableLines b

header_and_block : (symbols : List Symbol) (b : Block) → ((tokens : List Lexeme) → lines b tokens → AreSpelled tokens → AreSpellableLines b) → (tokens : List Lexeme) → (header symbols ⨾ body b (lines b)) tokens → AreSpelled tokens → HeaderAndBlock symbols b
header_and_block symbols b each tokens l h =
    let both = both_spelled l.front l.back tokens l.whole h in
    record { of_header = header_spelled symbols l.front l.is_first both.0; of_block = body_spelled b each l.back l.is_second both.1 }

-- the bounds of a `for`
range_spelled : (from : Option Expression) (to : Expression) → Spelled (range_symbols from to) → IfThereSpellable from × IsSpellable to
range_spelled None to h = (tt, expression_spelled to (before_last (expression_symbols to) (sign S.CloseParenthesis) h))
range_spelled (Some from) to h =
    let inside = before_last (expression_symbols from ++ sign S.Comma ∷ expression_symbols to) (sign S.CloseParenthesis) h in
    let both = parts (expression_symbols from) (sign S.Comma ∷ expression_symbols to) inside in
    (expression_spelled from both.0, expression_spelled to both.1)

mutual
  pub statement_spelled : (s : Statement) (tokens : List Lexeme) → statement s tokens → AreSpelled tokens → IsSpellableStatement s
  statement_spelled (if_then c b rest) tokens l h =
      let both = both_spelled l.front l.back tokens l.whole h in
      let more = both_spelled l.is_second.front l.is_second.back l.back l.is_second.whole both.1 in
      (expression_spelled c (header_spelled (key K.If ∷ expression_symbols c) l.front l.is_first both.0), body_spelled b (lines_spelled b) l.is_second.front l.is_second.is_first more.0, branches_spelled rest l.is_second.back l.is_second.is_second more.1)
  statement_spelled (while_do c b) tokens l h =
      let both = header_and_block (key K.While ∷ expression_symbols c) b (lines_spelled b) tokens l h in
      (expression_spelled c both.of_header, both.of_block)
  statement_spelled (for_range x from to b) tokens l h =
      let both = header_and_block (key K.For ∷ name x ∷ key K.In ∷ range_symbols from to) b (lines_spelled b) tokens l h in
      let named = split (name x) (key K.In ∷ range_symbols from to) both.of_header in
      let bounds = range_spelled from to named.1 in
      (named.0, bounds.0, bounds.1, both.of_block)
  statement_spelled (parallel b) tokens l h = (header_and_block (key K.With ∷ name (codes "parallel") ∷ []) b (lines_spelled b) tokens l h).of_block
  statement_spelled (sequential b) tokens l h = (header_and_block (key K.With ∷ name (codes "sequential") ∷ []) b (lines_spelled b) tokens l h).of_block
  statement_spelled (record_as text b) tokens l h =
      let both = header_and_block (key K.With ∷ record_symbols text) b (lines_spelled b) tokens l h in
      ((split (quoted text) (sign S.CloseParenthesis ∷ []) both.of_header).0, both.of_block)
  statement_spelled (try_do b handlers) tokens l h =
      let both = both_spelled l.front l.back tokens l.whole h in
      let more = both_spelled l.is_second.front l.is_second.back l.back l.is_second.whole both.1 in
      (body_spelled b (lines_spelled b) l.is_second.front l.is_second.is_first more.0, handlers_spelled handlers l.is_second.back l.is_second.is_second more.1)
  statement_spelled pass tokens l h = tt
  statement_spelled break tokens l h = tt
  statement_spelled continue tokens l h = tt
  statement_spelled (return e) tokens l h = simple_spelled (return e) tokens l h
  statement_spelled (evaluate e) tokens l h = simple_spelled (evaluate e) tokens l h
  statement_spelled (assign x e) tokens l h = simple_spelled (assign x e) tokens l h
  statement_spelled (assign_element x i e) tokens l h = simple_spelled (assign_element x i e) tokens l h
  statement_spelled (augment x op e) tokens l h = simple_spelled (augment x op e) tokens l h
  statement_spelled (augment_element x i op e) tokens l h = simple_spelled (augment_element x i op e) tokens l h
  statement_spelled (assign_repeated x e n) tokens l h = simple_spelled (assign_repeated x e n) tokens l h
  statement_spelled (assign_list x es) tokens l h = simple_spelled (assign_list x es) tokens l h

  pub lines_spelled : (b : Block) (tokens : List Lexeme) → lines b tokens → AreSpelled tokens → AreSpellableLines b
  lines_spelled done tokens l h = tt
  lines_spelled (line_then line s rest) tokens l h =
      let both = both_spelled l.front l.back tokens l.whole h in
      (statement_spelled s l.front l.is_first.1 both.0, lines_spelled rest l.back l.is_second both.1)

  pub branches_spelled : (o : Otherwise) (tokens : List Lexeme) → branches o tokens → AreSpelled tokens → AreSpellableBranches o
  branches_spelled no_else tokens l h = tt
  branches_spelled (else_do b) tokens l h = (header_and_block (key K.Else ∷ []) b (lines_spelled b) tokens l h).of_block
  branches_spelled (elif_then line c b rest) tokens l h =
      let both = both_spelled l.front l.back tokens l.whole h in
      let more = both_spelled l.is_second.front l.is_second.back l.back l.is_second.whole both.1 in
      (expression_spelled c (header_spelled (key K.Elif ∷ expression_symbols c) l.front l.is_first.1 both.0), body_spelled b (lines_spelled b) l.is_second.front l.is_second.is_first more.0, branches_spelled rest l.is_second.back l.is_second.is_second more.1)

  pub handlers_spelled : (a : Handlers) (tokens : List Lexeme) → excepts a tokens → AreSpelled tokens → AreSpellableHandlers a
  handlers_spelled no_handler tokens l h = tt
  handlers_spelled (except_then line x b rest) tokens l h =
      let both = both_spelled l.front l.back tokens l.whole h in
      let more = both_spelled l.is_second.front l.is_second.back l.back l.is_second.whole both.1 in
      ((split (name x) [] (header_spelled (key K.Except ∷ name x ∷ []) l.front l.is_first.1 both.0)).0, body_spelled b (lines_spelled b) l.is_second.front l.is_second.is_first more.0, handlers_spelled rest l.is_second.back l.is_second.is_second more.1)

parameters_spelled : (ps : List ParameterTree) → Spelled (parameter_symbols ps) → AreParametersSpellable ps
parameters_spelled [] h = tt
parameters_spelled (p ∷ rest) h =
    let both = split (name p.name) (sign S.Colon ∷ name (name_of_type p.declared) ∷ comma_before (parameter_symbols rest)) h in
    let more = split (name (name_of_type p.declared)) (comma_before (parameter_symbols rest)) both.1 in
    (both.0, parameters_spelled rest (behind_comma (parameter_symbols rest) more.1))

function_spelled : (f : FunctionTree) (tokens : List Lexeme) → function f tokens → AreSpelled tokens → IsSpellableFunction f
function_spelled f tokens l h =
    let both = both_spelled l.front l.back tokens l.whole h in
    let more = both_spelled l.is_second.front l.is_second.back l.back l.is_second.whole both.1 in
    let named = split (name f.name) (in_parentheses (parameter_symbols f.parameters) ++ result_symbols f.result) (header_spelled (function_symbols f) l.is_second.front l.is_second.is_first.1 more.0) in
    let inside = parts (parameter_symbols f.parameters ++ sign S.CloseParenthesis ∷ []) (result_symbols f.result) named.1 in
    (named.0, parameters_spelled f.parameters (before_last (parameter_symbols f.parameters) (sign S.CloseParenthesis) inside.0), body_spelled f.body (lines_spelled f.body) l.is_second.back l.is_second.is_second more.1)

-- a program
pub program_spelled : (p : ProgramTree) (tokens : List Lexeme) → program p tokens → AreSpelled tokens → IsSpellableProgram p
program_spelled [] tokens l h = tt
program_spelled (f ∷ fs) tokens l h =
    let both = both_spelled l.front l.back tokens l.whole h in
    (function_spelled f l.front l.is_first both.0, program_spelled fs l.back l.is_second both.1)
