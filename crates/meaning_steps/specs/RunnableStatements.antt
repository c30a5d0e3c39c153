-- What running asks of statements and functions, which a checked program gives.
use Rattle.std.specs.Prelude.{List, [], ◌∷◌, Option, Some, None}
use Rattle.kern_syntax.specs.Tree.{Expression, Statement, pass, break, continue, return, evaluate}
use Rattle.kern_syntax.specs.Tree.{assign, assign_element, augment, augment_element, assign_repeated}
use Rattle.kern_syntax.specs.Tree.{assign_list, if_then, while_do, for_range, parallel, sequential}
use Rattle.kern_syntax.specs.Tree.{record_as, try_do, Block, done, line_then, Otherwise, no_else}
use Rattle.kern_syntax.specs.Tree.{else_do, elif_then, Handlers, no_handler, except_then, ProgramTree}
use Rattle.meaning_steps.specs.Runnable.{IsRunnable}

-- an expression that may be missing
abbrev pub IfThereRunnable : Option Expression → Type 0
IfThereRunnable None = Unit {0}
IfThereRunnable (Some e) = IsRunnable e

-- each of some expressions
abbrev pub EachRunnable : List Expression → Type 0
EachRunnable [] = Unit {0}
EachRunnable (e ∷ es) = IsRunnable e × EachRunnable es

abbrev mutual
  -- a statement's expressions can run
  pub IsRunnableStatement : Statement → Type 0
  IsRunnableStatement pass = Unit {0}
  IsRunnableStatement break = Unit {0}
  IsRunnableStatement continue = Unit {0}
  IsRunnableStatement (return e) = IfThereRunnable e
  IsRunnableStatement (evaluate e) = IsRunnable e
  IsRunnableStatement (assign x e) = IsRunnable e
  IsRunnableStatement (assign_element x i e) = IsRunnable i × IsRunnable e
  IsRunnableStatement (augment x op e) = IsRunnable e
  IsRunnableStatement (augment_element x i op e) = IsRunnable i × IsRunnable e
  IsRunnableStatement (assign_repeated x e n) = IsRunnable e
  IsRunnableStatement (assign_list x es) = EachRunnable es
  IsRunnableStatement (if_then c b rest) = IsRunnable c × IsRunnableBlock b × IsRunnableOtherwise rest
  IsRunnableStatement (while_do c b) = IsRunnable c × IsRunnableBlock b
  IsRunnableStatement (for_range x from to b) = IfThereRunnable from × IsRunnable to × IsRunnableBlock b
  IsRunnableStatement (parallel b) = IsRunnableBlock b
  IsRunnableStatement (sequential b) = IsRunnableBlock b
  IsRunnableStatement (record_as text b) = IsRunnableBlock b
  IsRunnableStatement (try_do b handlers) = IsRunnableBlock b × AreRunnableHandlers handlers

  -- the statements of a block
  pub IsRunnableBlock : Block → Type 0
  IsRunnableBlock done = Unit {0}
  IsRunnableBlock (line_then line s rest) = IsRunnableStatement s × IsRunnableBlock rest

  -- the further branches of an `if`
  pub IsRunnableOtherwise : Otherwise → Type 0
  IsRunnableOtherwise no_else = Unit {0}
  IsRunnableOtherwise (else_do b) = IsRunnableBlock b
  IsRunnableOtherwise (elif_then line c b rest) = IsRunnable c × IsRunnableBlock b × IsRunnableOtherwise rest

  -- the `except` branches of a `try`
  pub AreRunnableHandlers : Handlers → Type 0
  AreRunnableHandlers no_handler = Unit {0}
  AreRunnableHandlers (except_then line x b rest) = IsRunnableBlock b × AreRunnableHandlers rest

-- the bodies of some functions can run
abbrev pub AreRunnableFunctions : ProgramTree → Type 0
AreRunnableFunctions [] = Unit {0}
AreRunnableFunctions (f ∷ rest) = IsRunnableBlock f.body × AreRunnableFunctions rest
