-- The tokens of the canonical text: each block on lines of its own, and no decorators.
use Rattle.std.specs.Prelude.{List, [], ◌∷◌, ◌++◌, codes, unwrap_or}
use Rattle.kern_lexer.specs.Symbols.{Symbol, name, key, sign, newline, indent, dedent, end}
use Rattle.kern_lexer.specs.declared.token.Key.TheVariants as K
use Rattle.kern_lexer.specs.declared.token.Sign.TheVariants as S
use Rattle.kern_syntax.specs.Tree.{Statement, if_then, while_do, for_range, parallel, sequential}
use Rattle.kern_syntax.specs.Tree.{record_as, try_do, Block, done, line_then, Otherwise, no_else, else_do}
use Rattle.kern_syntax.specs.Tree.{elif_then, Handlers, no_handler, except_then, FunctionTree, ProgramTree}
use Rattle.kern_grammar.specs.Expressions.{expression_symbols}
use Rattle.kern_grammar.specs.Simple.{simple_symbols}
use Rattle.kern_grammar.specs.Blocks.{range_symbols, record_symbols, function_symbols}

-- a header's tokens, and the indented lines of its block
abbrev pub with_block : (header block : List Symbol) → List Symbol
with_block header block = header ++ sign S.Colon ∷ newline ∷ indent ∷ block ++ dedent ∷ []

abbrev mutual
  -- the tokens of a statement's canonical lines
  pub statement_tokens : Statement → List Symbol
  statement_tokens (if_then c b rest) = with_block (key K.If ∷ expression_symbols c) (block_tokens b) ++ branch_tokens rest
  statement_tokens (while_do c b) = with_block (key K.While ∷ expression_symbols c) (block_tokens b)
  statement_tokens (for_range x from to b) = with_block (key K.For ∷ name x ∷ key K.In ∷ range_symbols from to) (block_tokens b)
  statement_tokens (parallel b) = with_block (key K.With ∷ name (codes "parallel") ∷ []) (block_tokens b)
  statement_tokens (sequential b) = with_block (key K.With ∷ name (codes "sequential") ∷ []) (block_tokens b)
  statement_tokens (record_as text b) = with_block (key K.With ∷ record_symbols text) (block_tokens b)
  statement_tokens (try_do b handlers) = with_block (key K.Try ∷ []) (block_tokens b) ++ except_tokens handlers
  statement_tokens s = unwrap_or (simple_symbols s) [] ++ newline ∷ []

  -- the tokens of a block's canonical lines
  pub block_tokens : Block → List Symbol
  block_tokens done = []
  block_tokens (line_then line s rest) = statement_tokens s ++ block_tokens rest

  -- the tokens of the further branches of an `if`
  pub branch_tokens : Otherwise → List Symbol
  branch_tokens no_else = []
  branch_tokens (else_do b) = with_block (key K.Else ∷ []) (block_tokens b)
  branch_tokens (elif_then line c b rest) = with_block (key K.Elif ∷ expression_symbols c) (block_tokens b) ++ branch_tokens rest

  -- the tokens of the `except` branches
  pub except_tokens : Handlers → List Symbol
  except_tokens no_handler = []
  except_tokens (except_then line x b rest) = with_block (key K.Except ∷ name x ∷ []) (block_tokens b) ++ except_tokens rest

-- the tokens of a function's canonical lines
abbrev pub function_tokens : FunctionTree → List Symbol
function_tokens f = with_block (function_symbols f) (block_tokens f.body)

-- the tokens of a program's canonical text
abbrev pub program_tokens : ProgramTree → List Symbol
program_tokens [] = end ∷ []
program_tokens (f ∷ fs) = function_tokens f ++ program_tokens fs
