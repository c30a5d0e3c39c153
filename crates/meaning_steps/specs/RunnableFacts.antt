-- What running asks is a fact, so that a type can keep it.
use Rattle.std.specs.Prelude.{List, [], ◌∷◌, Option, Some, None}
use Rattle.std.proofs.Props.{props}
use Rattle.kern_syntax.specs.Tree.{Expression, integer, true_literal, false_literal, variable, element, group}
use Rattle.kern_syntax.specs.Tree.{unary, binary, compare, negation, conjunction, disjunction, call, method}
use Rattle.kern_syntax.specs.Tree.{Arguments, no_more, value_then, text_then, Statement, pass, break, continue}
use Rattle.kern_syntax.specs.Tree.{return, evaluate, assign, assign_element, augment, augment_element}
use Rattle.kern_syntax.specs.Tree.{assign_repeated, assign_list, if_then, while_do, for_range, parallel}
use Rattle.kern_syntax.specs.Tree.{sequential, record_as, try_do, Block, done, line_then, Otherwise, no_else}
use Rattle.kern_syntax.specs.Tree.{else_do, elif_then, Handlers, no_handler, except_then, ProgramTree}
use Rattle.meaning_steps.specs.Runnable.{BuiltinIsTold, CallIsTold, MethodIsTold, IsRunnable, AreRunnable}
use Rattle.meaning_steps.specs.RunnableStatements.{IfThereRunnable, EachRunnable, IsRunnableStatement, IsRunnableBlock}
use Rattle.meaning_steps.specs.RunnableStatements.{IsRunnableOtherwise, AreRunnableHandlers, AreRunnableFunctions}
use Rattle.kern_calls.specs.declared.calls.Builtin.{Builtin}
use Rattle.kern_calls.specs.declared.calls.Builtin.TheVariants as B
use Rattle.kern_calls.specs.declared.calls.Operation.{Operation}
use Rattle.kern_calls.specs.Calls.{builtin_named, method_named}

-- of two, or three
both : {A B : Type 0} → IsProp A → IsProp B → IsProp (A × B)
both first second = Prim.hlevel (props, first, second)

three : {A B C : Type 0} → IsProp A → IsProp B → IsProp C → IsProp (A × B × C)
three first second third = Prim.hlevel (props, first, second, third)

-- that a call has its text
builtin-prop : (builtin : Builtin) (args : Arguments) → IsProp (BuiltinIsTold builtin args)
builtin-prop B.SetDataset args = Prim.hlevel props
builtin-prop B.NowMu args = Prim.hlevel props
builtin-prop B.AtMu args = Prim.hlevel props
builtin-prop B.DelayMu args = Prim.hlevel props
builtin-prop B.Len args = Prim.hlevel props
builtin-prop B.ToInt32 args = Prim.hlevel props
builtin-prop B.ToInt64 args = Prim.hlevel props

call-prop : (builtin : Option Builtin) (args : Arguments) → IsProp (CallIsTold builtin args)
call-prop None args = Prim.hlevel props
call-prop (Some builtin) args = builtin-prop builtin args

method-prop : (operation : Option Operation) (args : Arguments) → IsProp (MethodIsTold operation args)
method-prop None args = Prim.hlevel props
method-prop (Some operation) args = Prim.hlevel props

mutual
  -- what an expression must be to run is a fact
  pub runnable-prop : (e : Expression) → IsProp (IsRunnable e)
  runnable-prop (integer n) = Prim.hlevel props
  runnable-prop true_literal = Prim.hlevel props
  runnable-prop false_literal = Prim.hlevel props
  runnable-prop (variable x) = Prim.hlevel props
  runnable-prop (element x i) = runnable-prop i
  runnable-prop (group e) = runnable-prop e
  runnable-prop (unary op e) = runnable-prop e
  runnable-prop (binary op a b) = both (runnable-prop a) (runnable-prop b)
  runnable-prop (compare op a b) = both (runnable-prop a) (runnable-prop b)
  runnable-prop (negation e) = runnable-prop e
  runnable-prop (conjunction a b) = both (runnable-prop a) (runnable-prop b)
  runnable-prop (disjunction a b) = both (runnable-prop a) (runnable-prop b)
  runnable-prop (call f args) = both (call-prop (builtin_named f) args) (are-runnable-prop args)
  runnable-prop (method o m args) = both (method-prop (method_named o m) args) (are-runnable-prop args)

  -- arguments
  pub are-runnable-prop : (args : Arguments) → IsProp (AreRunnable args)
  are-runnable-prop no_more = Prim.hlevel props
  are-runnable-prop (value_then e rest) = both (runnable-prop e) (are-runnable-prop rest)
  are-runnable-prop (text_then text rest) = are-runnable-prop rest

-- so is what one that may be missing must be
if-there-prop : (e : Option Expression) → IsProp (IfThereRunnable e)
if-there-prop None = Prim.hlevel props
if-there-prop (Some e) = runnable-prop e

-- and what some expressions must be
each-prop : (es : List Expression) → IsProp (EachRunnable es)
each-prop [] = Prim.hlevel props
each-prop (e ∷ es) = both (runnable-prop e) (each-prop es)

mutual
  -- a statement
  statement-prop : (s : Statement) → IsProp (IsRunnableStatement s)
  statement-prop pass = Prim.hlevel props
  statement-prop break = Prim.hlevel props
  statement-prop continue = Prim.hlevel props
  statement-prop (return e) = if-there-prop e
  statement-prop (evaluate e) = runnable-prop e
  statement-prop (assign x e) = runnable-prop e
  statement-prop (assign_element x i e) = both (runnable-prop i) (runnable-prop e)
  statement-prop (augment x op e) = runnable-prop e
  statement-prop (augment_element x i op e) = both (runnable-prop i) (runnable-prop e)
  statement-prop (assign_repeated x e n) = runnable-prop e
  statement-prop (assign_list x es) = each-prop es
  statement-prop (if_then c b rest) = three (runnable-prop c) (block-prop b) (otherwise-prop rest)
  statement-prop (while_do c b) = both (runnable-prop c) (block-prop b)
  statement-prop (for_range x from to b) = three (if-there-prop from) (runnable-prop to) (block-prop b)
  statement-prop (parallel b) = block-prop b
  statement-prop (sequential b) = block-prop b
  statement-prop (record_as text b) = block-prop b
  statement-prop (try_do b handlers) = both (block-prop b) (handlers-prop handlers)

  -- the statements of a block
  pub block-prop : (b : Block) → IsProp (IsRunnableBlock b)
  block-prop done = Prim.hlevel props
  block-prop (line_then line s rest) = both (statement-prop s) (block-prop rest)

  -- the further branches of an `if`
  otherwise-prop : (rest : Otherwise) → IsProp (IsRunnableOtherwise rest)
  otherwise-prop no_else = Prim.hlevel props
  otherwise-prop (else_do b) = block-prop b
  otherwise-prop (elif_then line c b rest) = three (runnable-prop c) (block-prop b) (otherwise-prop rest)

  -- the `except` branches of a `try`
  handlers-prop : (handlers : Handlers) → IsProp (AreRunnableHandlers handlers)
  handlers-prop no_handler = Prim.hlevel props
  handlers-prop (except_then line x b rest) = both (block-prop b) (handlers-prop rest)

-- functions
pub functions-prop : (fs : ProgramTree) → IsProp (AreRunnableFunctions fs)
functions-prop [] = Prim.hlevel props
functions-prop (f ∷ rest) = both (block-prop f.body) (functions-prop rest)
