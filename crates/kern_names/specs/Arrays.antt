-- The lengths of the arrays that a function assigns.
use Rattle.std.specs.Prelude.{ℕ, ◌<◌, ◌^◌, length}
use Rattle.kern_syntax.specs.Tree.{Statement, assign_repeated, assign_list, if_then, while_do, for_range, parallel}
use Rattle.kern_syntax.specs.Tree.{sequential, record_as, try_do, Block, done, line_then, Otherwise, no_else, else_do}
use Rattle.kern_syntax.specs.Tree.{elif_then, Handlers, no_handler, except_then}

-- an array of so many numbers has a length of two bytes
abbrev pub ArrayFits : (count : ℕ) → Type 0
ArrayFits count = count < 2 ^ 16

abbrev mutual
  -- so has each array that a statement assigns
  pub StatementArraysFit : Statement → Type 0
  StatementArraysFit (assign_repeated x e n) = ArrayFits n
  StatementArraysFit (assign_list x es) = ArrayFits (length es)
  StatementArraysFit (if_then c b rest) = BlockArraysFit b × OtherwiseArraysFit rest
  StatementArraysFit (while_do c b) = BlockArraysFit b
  StatementArraysFit (for_range x from to b) = BlockArraysFit b
  StatementArraysFit (parallel b) = BlockArraysFit b
  StatementArraysFit (sequential b) = BlockArraysFit b
  StatementArraysFit (record_as text b) = BlockArraysFit b
  StatementArraysFit (try_do b handlers) = BlockArraysFit b × HandlersArraysFit handlers
  StatementArraysFit _ = Unit {0}

  -- each that a block assigns
  pub BlockArraysFit : Block → Type 0
  BlockArraysFit done = Unit {0}
  BlockArraysFit (line_then line s rest) = StatementArraysFit s × BlockArraysFit rest

  -- the further branches of an `if`
  pub OtherwiseArraysFit : Otherwise → Type 0
  OtherwiseArraysFit no_else = Unit {0}
  OtherwiseArraysFit (else_do b) = BlockArraysFit b
  OtherwiseArraysFit (elif_then line c b rest) = BlockArraysFit b × OtherwiseArraysFit rest

  -- and handlers
  pub HandlersArraysFit : Handlers → Type 0
  HandlersArraysFit no_handler = Unit {0}
  HandlersArraysFit (except_then line x b rest) = BlockArraysFit b × HandlersArraysFit rest
