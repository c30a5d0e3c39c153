-- The token lists of statements, blocks, functions and programs, by the cases of the grammar.
use Rattle.std.specs.Prelude.{List, [], ◌∷◌, ◌++◌, codes, Option, Some, None}
use Rattle.kern_lexer.specs.Bytes.{Bytes}
use Rattle.kern_lexer.specs.Symbols.{Symbol, name, key, quoted, sign, newline, indent, dedent, end}
use Rattle.kern_lexer.specs.declared.token.Key.TheVariants as K
use Rattle.kern_lexer.specs.declared.token.Sign.TheVariants as S
use Rattle.kern_syntax.specs.declared.program.DeclaredType.{DeclaredType}
use Rattle.kern_syntax.specs.Print.{name_of_type}
use Rattle.kern_syntax.specs.Tree.{Expression, Statement, if_then, while_do, for_range, parallel, sequential}
use Rattle.kern_syntax.specs.Tree.{record_as, try_do, Block, done, line_then, Otherwise, no_else, else_do, elif_then}
use Rattle.kern_syntax.specs.Tree.{Handlers, no_handler, except_then, ParameterTree, FunctionTree, ProgramTree}
use Rattle.kern_grammar.specs.Expressions.{expression_symbols, in_parentheses, comma_before}
use Rattle.kern_grammar.specs.Phrases.{Phrase, these, ◌⨾◌, ◌∣◌, on_line, simple_line, one_line}

-- a header ends with a colon
abbrev pub header : List Symbol → Phrase
header symbols = these (symbols ++ sign S.Colon ∷ [])

-- the block of a header: a simple statement on its line, or indented lines
abbrev pub body : Block → (lines : Phrase) → Phrase
body b lines = one_line b ∣ (these (newline ∷ indent ∷ []) ⨾ lines ⨾ these (dedent ∷ []))

-- the bounds of a `for`
abbrev pub range_symbols : Option Expression → Expression → List Symbol
range_symbols None to = name (codes "range") ∷ in_parentheses (expression_symbols to)
range_symbols (Some from) to = name (codes "range") ∷ in_parentheses (expression_symbols from ++ sign S.Comma ∷ expression_symbols to)

-- the item of a block that records
abbrev pub record_symbols : Bytes → List Symbol
record_symbols text = name (codes "core_dma") ∷ sign S.Dot ∷ name (codes "record") ∷ in_parentheses (quoted text ∷ [])

abbrev mutual
  -- a statement
  pub statement : Statement → Phrase
  statement (if_then c b rest) = header (key K.If ∷ expression_symbols c) ⨾ body b (lines b) ⨾ branches rest
  statement (while_do c b) = header (key K.While ∷ expression_symbols c) ⨾ body b (lines b)
  statement (for_range x from to b) = header (key K.For ∷ name x ∷ key K.In ∷ range_symbols from to) ⨾ body b (lines b)
  statement (parallel b) = header (key K.With ∷ name (codes "parallel") ∷ []) ⨾ body b (lines b)
  statement (sequential b) = header (key K.With ∷ name (codes "sequential") ∷ []) ⨾ body b (lines b)
  statement (record_as text b) = header (key K.With ∷ record_symbols text) ⨾ body b (lines b)
  statement (try_do b handlers) = header (key K.Try ∷ []) ⨾ body b (lines b) ⨾ excepts handlers
  statement s = simple_line s

  -- statements one after another, each with the line of its first token
  pub lines : Block → Phrase
  lines done = these []
  lines (line_then line s rest) = on_line line (statement s) ⨾ lines rest

  -- the further branches of an `if`
  pub branches : Otherwise → Phrase
  branches no_else = these []
  branches (else_do b) = header (key K.Else ∷ []) ⨾ body b (lines b)
  branches (elif_then line c b rest) = on_line line (header (key K.Elif ∷ expression_symbols c)) ⨾ body b (lines b) ⨾ branches rest

  -- the `except` branches of a `try`
  pub excepts : Handlers → Phrase
  excepts no_handler = these []
  excepts (except_then line x b rest) = on_line line (header (key K.Except ∷ name x ∷ [])) ⨾ body b (lines b) ⨾ excepts rest

-- the tokens of parameters, joined by commas
abbrev pub parameter_symbols : List ParameterTree → List Symbol
parameter_symbols [] = []
parameter_symbols (p ∷ rest) = name p.name ∷ sign S.Colon ∷ name (name_of_type p.declared) ∷ comma_before (parameter_symbols rest)

-- the tokens of a result type
abbrev pub result_symbols : Option DeclaredType → List Symbol
result_symbols None = []
result_symbols (Some t) = sign S.Arrow ∷ name (name_of_type t) ∷ []

-- the tokens of a function's header
abbrev pub function_symbols : FunctionTree → List Symbol
function_symbols f = key K.Def ∷ name f.name ∷ in_parentheses (parameter_symbols f.parameters) ++ result_symbols f.result

-- a decorator, or none
abbrev pub decorator : Phrase
decorator = these [] ∣ these (sign S.At ∷ name (codes "kernel") ∷ newline ∷ [])

-- a function, with the line of its `def`
abbrev pub function : FunctionTree → Phrase
function f = decorator ⨾ on_line f.line (header (function_symbols f)) ⨾ body f.body (lines f.body)

-- functions and End
abbrev pub program : ProgramTree → Phrase
program [] = these (end ∷ [])
program (f ∷ fs) = function f ⨾ program fs
