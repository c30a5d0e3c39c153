-- How often the text of a function assigns to a name.
use Rattle.std.specs.Prelude.{ℕ, suc, ◌+◌}
use Rattle.kern_syntax.specs.Tree.{Statement, assign, assign_repeated, assign_list, if_then, while_do, for_range}
use Rattle.kern_syntax.specs.Tree.{parallel, sequential, record_as, try_do, Block, done, line_then, Otherwise, no_else}
use Rattle.kern_syntax.specs.Tree.{else_do, elif_then, Handlers, no_handler, except_then}

abbrev mutual
  -- the assignments of a statement and of the blocks in it
  pub assignments : Statement → ℕ
  assignments (assign x e) = 1
  assignments (assign_repeated x e n) = 1
  assignments (assign_list x es) = 1
  assignments (if_then c b rest) = block_assignments b + otherwise_assignments rest
  assignments (while_do c b) = block_assignments b
  assignments (for_range x from to b) = suc (block_assignments b)
  assignments (parallel b) = block_assignments b
  assignments (sequential b) = block_assignments b
  assignments (record_as text b) = block_assignments b
  assignments (try_do b handlers) = block_assignments b + handlers_assignments handlers
  assignments _ = 0

  -- those of a block
  pub block_assignments : Block → ℕ
  block_assignments done = 0
  block_assignments (line_then line s rest) = assignments s + block_assignments rest

  -- those of the further branches of an `if`
  pub otherwise_assignments : Otherwise → ℕ
  otherwise_assignments no_else = 0
  otherwise_assignments (else_do b) = block_assignments b
  otherwise_assignments (elif_then line c b rest) = block_assignments b + otherwise_assignments rest

  -- those of handlers
  pub handlers_assignments : Handlers → ℕ
  handlers_assignments no_handler = 0
  handlers_assignments (except_then line x b rest) = block_assignments b + handlers_assignments rest
