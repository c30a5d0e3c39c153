-- The meaning of statements and blocks.
use Rattle.std.specs.Prelude.{ℕ, zero, suc, List, [], ◌∷◌, replicate, ℤ, pos, ◌+ℤ◌, Bool, true, false}
use Rattle.std.specs.Prelude.{if◌then◌else◌, Option, Some, None, bytes_eq, unwrap_or, codes, ⊤}
use Rattle.std.specs.Int.{int_max, int_gap}
use Rattle.rtio_types.specs.declared.outcome.Exc.{Exc}
use Rattle.rtio_types.specs.declared.outcome.Exc.TheVariants.{RTIOUnderflow, RTIOOverflow, DMAError}
use Rattle.rtio_types.specs.declared.outcome.Exc.TheVariants.{ZeroDivisionError, IndexError, StackOverflow}
use Rattle.rtio_types.specs.declared.request.Request.{Request}
use Rattle.rtio_types.specs.declared.request.Request.TheVariants as Q
use Rattle.rtio_types.specs.declared.request.Value.TheVariants as W
use Rattle.kern_syntax.specs.declared.statement.Augment.{Augment}
use Rattle.kern_syntax.specs.declared.statement.Augment.TheVariants as A
use Rattle.kern_syntax.specs.declared.expression.BinaryOperator.{BinaryOperator}
use Rattle.kern_syntax.specs.declared.expression.BinaryOperator.TheVariants as O
use Rattle.kern_syntax.specs.Tree.{Bytes, Expression, variable, Statement, pass, evaluate, assign, assign_element}
use Rattle.kern_syntax.specs.Tree.{augment, augment_element, assign_repeated, assign_list, if_then, while_do}
use Rattle.kern_syntax.specs.Tree.{for_range, parallel, sequential, record_as, try_do, Block, done, line_then}
use Rattle.kern_syntax.specs.Tree.{Otherwise, no_else, else_do, elif_then, Handlers, no_handler, except_then}
use Rattle.kern_syntax.specs.Tree as T
use Rattle.kern_calls.specs.declared.types.ValueType.TheVariants.{Int64}
use Rattle.kern_calls.specs.Types.{Scope, type_of}
use Rattle.timeline_sem.specs.Actions.{State, break, continue, return, raised, budget}
use Rattle.timeline_sem.specs.Actions.{Completion, normal, early, Action, go_on, give, skip}
use Rattle.timeline_sem.specs.Actions.{stop, take_unit, ask, cursor_now, set_cursor, ◌>>=◌, ◌>>◌}
use Rattle.rtio_types.specs.Integers.{is_true}
use Rattle.timeline_sem.specs.Expressions.{Callee, expression, read, write, read_element}
use Rattle.timeline_sem.specs.Expressions.{write_element, operate, number_in_value}

-- the name of an exception
abbrev pub name_of_exception : Exc → Bytes
name_of_exception RTIOUnderflow = codes "RTIOUnderflow"
name_of_exception RTIOOverflow = codes "RTIOOverflow"
name_of_exception DMAError = codes "DMAError"
name_of_exception ZeroDivisionError = codes "ZeroDivisionError"
name_of_exception IndexError = codes "IndexError"
name_of_exception StackOverflow = codes "StackOverflow"

-- the operator of an augmented assignment
abbrev pub operator_of : Augment → BinaryOperator
operator_of A.Add = O.Add
operator_of A.Subtract = O.Subtract

-- does the part where the test says so
abbrev pub when : Bool → Action ⊤ → Action ⊤
when true action = action
when false action = skip

-- the first part or the second
abbrev pub either : Bool → Action ⊤ → Action ⊤ → Action ⊤
either true first second = first
either false first second = second

-- after a turn of a loop: `break` ends it, `continue` goes on
abbrev pub after_turn : Completion ⊤ → Action ⊤ → Completion ⊤
after_turn (normal a s) again = again s
after_turn (early continue s) again = again s
after_turn (early break s) again = normal tt s
after_turn (early reason s) again = early reason s

-- a turn of a loop takes a unit
abbrev pub turn : Action ⊤ → Action ⊤ → Action ⊤
turn body again = take_unit >> (λ s. after_turn (body s) again)

-- turns of a `while`, as many as there are units at most
abbrev pub while_turns : (units : ℕ) → Action ℤ → Action ⊤ → Action ⊤
while_turns zero condition body = do
  holds ← condition
  when (is_true holds) (stop budget)
while_turns (suc left) condition body = do
  holds ← condition
  when (is_true holds) (turn body (while_turns left condition body))

-- a `while`, whose turns the units left bound
abbrev pub while_loop : Action ℤ → Action ⊤ → Action ⊤
while_loop condition body s = while_turns s.units condition body s

-- the turns of a `for` from a number on
abbrev pub for_turns : (count : ℕ) → Bytes → ℤ → Action ⊤ → Action ⊤
for_turns zero x from body = skip
for_turns (suc left) x from body = turn (write x (W.Int from) >> body) (for_turns left x (from +ℤ pos 1) body)

-- the outputs and the cursor of a record block are its own; both are as before where it ends early
abbrev pub leave_recording : State → State → State
leave_recording before s = record s { cursor = before.cursor; collected = before.collected }

-- the request that saves what was collected, with the cursor as its length
abbrev pub save_request : Bytes → State → Request
save_request name s = Q.Save name (record { events = unwrap_or s.collected []; length = s.cursor })

-- the request is made after its unit is taken and the cursor is back
abbrev pub save_after : Request → State → Completion ⊤ → Completion ⊤
save_after q before (normal a s) = go_on (ask q (leave_recording before s)) (λ reply. skip)
save_after q before (early reason s) = early reason (leave_recording before s)

-- the end of a record block
abbrev pub end_recording : Bytes → State → Completion ⊤ → Completion ⊤
end_recording name before (normal a s) = save_after (save_request name s) before (take_unit s)
end_recording name before (early reason s) = early reason (leave_recording before s)

-- a record block: its body from cursor 0 with an empty list
abbrev pub recorded : Bytes → Action ⊤ → Action ⊤
recorded name body s = end_recording name s (body (record s { cursor = pos 0; collected = Some [] }))

-- after the body of a `try`: a raised exception goes to its handler
abbrev pub after_try : Completion ⊤ → (Exc → Action ⊤) → Completion ⊤
after_try (early (raised x) s) handle = handle x s
after_try completion handle = completion

-- a body with handlers
abbrev pub attempt : Action ⊤ → (Exc → Action ⊤) → Action ⊤
attempt body handle s = after_try (body s) handle

module _ (scope : Scope) (callee : Callee) where
  -- the value of an expression in this scope
  abbrev pub value : Expression → Action ℤ
  value e = expression scope callee e

  -- the values of some expressions, from left to right
  abbrev pub values : List Expression → Action (List ℤ)
  values [] = give []
  values (e ∷ rest) = do
    a ← value e
    others ← values rest
    give (a ∷ others)

  -- the value of a `return`; 0 where it has none
  abbrev pub optional_value : Option Expression → Action ℤ
  optional_value None = give (pos 0)
  optional_value (Some e) = value e

  abbrev mutual
    -- what a statement does
    pub statement : Statement → Action ⊤
    statement pass = skip
    statement T.break = stop break
    statement T.continue = stop continue
    statement (T.return e) = do
      a ← optional_value e
      stop (return a)
    statement (evaluate e) = do
      a ← value e
      skip
    statement (assign x e) = do
      a ← value e
      write x (W.Int a)
    statement (assign_element x i e) = do
      a ← value e
      place ← value i
      write_element x place a
    statement (augment x op e) = do
      held ← read x
      a ← value e
      new ← operate (operator_of op) (type_of scope (variable x)) (number_in_value held) a
      write x (W.Int new)
    statement (augment_element x i op e) = do
      place ← value i
      held ← read_element x place
      a ← value e
      new ← operate (operator_of op) Int64 held a
      write_element x place new
    statement (assign_repeated x e n) = do
      a ← value e
      write x (W.List (replicate n a))
    statement (assign_list x es) = do
      items ← values es
      write x (W.List items)
    statement (if_then condition body rest) = do
      holds ← value condition
      either (is_true holds) (block body) (otherwise rest)
    statement (while_do condition body) = while_loop (value condition) (block body)
    statement (for_range x from to body) = do
      start ← optional_value from
      end ← value to
      for_turns (int_gap start end) x start (block body)
    statement (parallel body) = do
      start ← cursor_now
      parallel_block body start start
    statement (sequential body) = block body
    statement (record_as name body) = recorded name (block body)
    statement (try_do body handlers) = attempt (block body) (handler handlers)

    -- one statement after another
    pub block : Block → Action ⊤
    block done = skip
    block (line_then line first rest) = do
      statement first
      block rest

    -- each statement from the start cursor; at last the cursor is the greatest
    pub parallel_block : Block → (start greatest : ℤ) → Action ⊤
    parallel_block done start greatest = set_cursor greatest
    parallel_block (line_then line first rest) start greatest = do
      set_cursor start
      statement first
      t ← cursor_now
      parallel_block rest start (int_max greatest t)

    -- the first further branch whose condition holds
    pub otherwise : Otherwise → Action ⊤
    otherwise no_else = skip
    otherwise (else_do body) = block body
    otherwise (elif_then line condition body rest) = do
      holds ← value condition
      either (is_true holds) (block body) (otherwise rest)

    -- the first branch with the exception's name, or else it goes further
    pub handler : Handlers → Exc → Action ⊤
    handler no_handler x = stop (raised x)
    handler (except_then line name body rest) x =
        if bytes_eq name (name_of_exception x) then block body else handler rest x
