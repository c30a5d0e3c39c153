-- Trees whose statements stand on lines, which count from 1.
use Rattle.std.specs.Prelude.{◌≤◌, [], ◌∷◌}
use Rattle.kern_syntax.specs.Tree.{Statement, if_then, while_do, for_range, parallel, sequential, record_as, try_do}
use Rattle.kern_syntax.specs.Tree.{Block, done, line_then, Otherwise, no_else, else_do, elif_then}
use Rattle.kern_syntax.specs.Tree.{Handlers, no_handler, except_then, ProgramTree}

abbrev mutual
  -- what stands inside a statement has lines
  pub StatementHasLines : Statement → Type 0
  StatementHasLines (if_then c b rest) = BlockHasLines b × OtherwiseHasLines rest
  StatementHasLines (while_do c b) = BlockHasLines b
  StatementHasLines (for_range x from to b) = BlockHasLines b
  StatementHasLines (parallel b) = BlockHasLines b
  StatementHasLines (sequential b) = BlockHasLines b
  StatementHasLines (record_as name b) = BlockHasLines b
  StatementHasLines (try_do b handlers) = BlockHasLines b × HandlersHaveLines handlers
  StatementHasLines s = Unit {0}

  -- each statement of a block stands on one
  pub BlockHasLines : Block → Type 0
  BlockHasLines done = Unit {0}
  BlockHasLines (line_then line s rest) = (1 ≤ line) × StatementHasLines s × BlockHasLines rest

  -- each further branch of an `if`
  pub OtherwiseHasLines : Otherwise → Type 0
  OtherwiseHasLines no_else = Unit {0}
  OtherwiseHasLines (else_do b) = BlockHasLines b
  OtherwiseHasLines (elif_then line c b rest) = (1 ≤ line) × BlockHasLines b × OtherwiseHasLines rest

  -- each `except`
  pub HandlersHaveLines : Handlers → Type 0
  HandlersHaveLines no_handler = Unit {0}
  HandlersHaveLines (except_then line name b rest) = (1 ≤ line) × BlockHasLines b × HandlersHaveLines rest

-- each function of a program
abbrev pub ProgramHasLines : ProgramTree → Type 0
ProgramHasLines [] = Unit {0}
ProgramHasLines (f ∷ rest) = (1 ≤ f.line) × BlockHasLines f.body × ProgramHasLines rest
