-- What statements and blocks do in a run without a core.
use Rattle.std.specs.Prelude.{ℕ, zero, suc, List, [], ◌∷◌, replicate, ℤ, pos, ◌+ℤ◌, Bool, true}
use Rattle.std.specs.Prelude.{false, if◌then◌else◌, Option, Some, None, bytes_eq, unwrap_or, ⊤}
use Rattle.std.specs.Int.{int_gap}
use Rattle.rtio_types.specs.declared.outcome.Exc.{Exc}
use Rattle.rtio_types.specs.Integers.{is_true}
use Rattle.kern_syntax.specs.Tree.{Bytes, Expression, variable, Statement, pass, evaluate, assign, assign_element}
use Rattle.kern_syntax.specs.Tree.{augment, augment_element, assign_repeated, assign_list, if_then, while_do}
use Rattle.kern_syntax.specs.Tree.{for_range, parallel, sequential, record_as, try_do, Block, done, line_then}
use Rattle.kern_syntax.specs.Tree.{Otherwise, no_else, else_do, elif_then, Handlers, no_handler, except_then}
use Rattle.kern_syntax.specs.Tree as T
use Rattle.kern_calls.specs.declared.types.ValueType.TheVariants.{Int64}
use Rattle.kern_calls.specs.Types.{Scope, type_of}
use Rattle.timeline_sem.specs.Statements.{name_of_exception, operator_of}
use Rattle.slack_meaning.specs.Spans.{Span, exactly, span_max}
use Rattle.slack_meaning.specs.Actions.{SpanRecording, number, list, State, break, continue, return, raised}
use Rattle.slack_meaning.specs.Actions.{budget, Completion, normal, early, Action, give, skip, stop, take_unit}
use Rattle.slack_meaning.specs.Actions.{cursor_now, set_cursor, as_number, within_reach, ◌>>=◌, ◌>>◌}
use Rattle.slack_meaning.specs.Answers.{save}
use Rattle.slack_meaning.specs.Expressions.{Callee, expression, read, write, read_element}
use Rattle.slack_meaning.specs.Expressions.{write_element, operate, span_in}

-- does the part where the test says so
abbrev pub when : Bool → Action ⊤ → Action ⊤
when true action = action
when false action = skip

-- the first part or the second
abbrev pub either : Bool → Action ⊤ → Action ⊤ → Action ⊤
either true first second = first
either false first second = second

-- after a turn of a loop: `break` ends it, `continue` goes on
abbrev pub after_turn : Completion ⊤ → Action ⊤ → Completion ⊤
after_turn (normal a s) again = again s
after_turn (early continue s) again = again s
after_turn (early break s) again = normal tt s
after_turn (early reason s) again = early reason s

-- a turn of a loop takes a unit
abbrev pub turn : Action ⊤ → Action ⊤ → Action ⊤
turn body again = take_unit >> (λ s. after_turn (body s) again)

-- turns of a `while`, as many as there are units at most
abbrev pub while_turns : (units : ℕ) → Action Span → Action ⊤ → Action ⊤
while_turns zero condition body = do
  holds ← condition
  n ← as_number holds
  when (is_true n) (stop budget)
while_turns (suc left) condition body = do
  holds ← condition
  n ← as_number holds
  when (is_true n) (turn body (while_turns left condition body))

-- a `while`, whose turns the units left bound
abbrev pub while_loop : Action Span → Action ⊤ → Action ⊤
while_loop condition body s = while_turns s.units condition body s

-- the turns of a `for` from a number on
abbrev pub for_turns : (count : ℕ) → Bytes → ℤ → Action ⊤ → Action ⊤
for_turns zero x from body = skip
for_turns (suc left) x from body = turn (write x (number (exactly from)) >> body) (for_turns left x (from +ℤ pos 1) body)

-- the outputs and the cursor of a record block are its own; both are as before where it ends early
abbrev pub leave_recording : State → State → State
leave_recording before s = record s { cursor = before.cursor; collected = before.collected }

-- what was collected, with the cursor as its length
abbrev pub recording_in : State → SpanRecording
recording_in s = record { events = unwrap_or s.collected []; length = s.cursor }

-- the recording is saved after the unit is taken and the cursor is back
abbrev pub save_after : Bytes → SpanRecording → State → Completion ⊤ → Completion ⊤
save_after name recording before (normal a s) = save name recording (leave_recording before s)
save_after name recording before (early reason s) = early reason (leave_recording before s)

-- the end of a record block
abbrev pub end_recording : Bytes → State → Completion ⊤ → Completion ⊤
end_recording name before (normal a s) = save_after name (recording_in s) before (take_unit s)
end_recording name before (early reason s) = early reason (leave_recording before s)

-- a record block: its body from cursor 0 with an empty list
abbrev pub recorded : Bytes → Action ⊤ → Action ⊤
recorded name body s = end_recording name s (body (record s { cursor = exactly (pos 0); collected = Some [] }))

-- after the body of a `try`: a raised exception goes to its handler
abbrev pub after_try : Completion ⊤ → (Exc → Action ⊤) → Completion ⊤
after_try (early (raised x) s) handle = handle x s
after_try completion handle = completion

-- a body with handlers
abbrev pub attempt : Action ⊤ → (Exc → Action ⊤) → Action ⊤
attempt body handle s = after_try (body s) handle

-- the turns of a `for` between two values, which must be numbers
abbrev pub turns_between : Bytes → Span → Span → Action ⊤ → Action ⊤
turns_between x start end body = do
  from ← as_number start
  to ← as_number end
  for_turns (int_gap from to) x from body

module _ (scope : Scope) (callee : Callee) where
  -- the value of an expression in this scope
  abbrev pub value : Expression → Action Span
  value e = expression scope callee e

  -- the values of some expressions, from left to right
  abbrev pub values : List Expression → Action (List Span)
  values [] = give []
  values (e ∷ rest) = do
    a ← value e
    others ← values rest
    give (a ∷ others)

  -- the value of a `return`; 0 where it has none
  abbrev pub optional_value : Option Expression → Action Span
  optional_value None = give (exactly (pos 0))
  optional_value (Some e) = value e

  abbrev mutual
    -- what a statement does
    pub statement : Statement → Action ⊤
    statement pass = skip
    statement T.break = stop break
    statement T.continue = stop continue
    statement (T.return e) = do
      a ← optional_value e
      stop (return a)
    statement (evaluate e) = do
      a ← value e
      skip
    statement (assign x e) = do
      a ← value e
      write x (number a)
    statement (assign_element x i e) = do
      a ← value e
      place ← value i
      write_element x place a
    statement (augment x op e) = do
      held ← read x
      a ← value e
      new ← operate (operator_of op) (type_of scope (variable x)) (span_in held) a
      write x (number new)
    statement (augment_element x i op e) = do
      place ← value i
      held ← read_element x place
      a ← value e
      new ← operate (operator_of op) Int64 held a
      write_element x place new
    statement (assign_repeated x e n) = do
      a ← value e
      write x (list (replicate n a))
    statement (assign_list x es) = do
      items ← values es
      write x (list items)
    statement (if_then condition body rest) = do
      holds ← value condition
      n ← as_number holds
      either (is_true n) (block body) (otherwise rest)
    statement (while_do condition body) = while_loop (value condition) (block body)
    statement (for_range x from to body) = do
      start ← optional_value from
      end ← value to
      turns_between x start end (block body)
    statement (parallel body) = do
      start ← cursor_now
      parallel_block body start start
    statement (sequential body) = block body
    statement (record_as name body) = recorded name (block body)
    statement (try_do body handlers) = attempt (block body) (handler handlers)

    -- one statement after another
    pub block : Block → Action ⊤
    block done = skip
    block (line_then line first rest) = do
      statement first
      block rest

    -- each statement from the start cursor; at last the cursor is the greatest, end by end
    pub parallel_block : Block → (start greatest : Span) → Action ⊤
    parallel_block done start greatest = set_cursor greatest
    parallel_block (line_then line first rest) start greatest = do
      set_cursor start
      statement first
      t ← cursor_now
      later ← within_reach (span_max greatest t)
      parallel_block rest start later

    -- the first further branch whose condition holds
    pub otherwise : Otherwise → Action ⊤
    otherwise no_else = skip
    otherwise (else_do body) = block body
    otherwise (elif_then line condition body rest) = do
      holds ← value condition
      n ← as_number holds
      either (is_true n) (block body) (otherwise rest)

    -- the first branch with the exception's name, or else it goes further
    pub handler : Handlers → Exc → Action ⊤
    handler no_handler x = stop (raised x)
    handler (except_then line name body rest) x =
        if bytes_eq name (name_of_exception x) then block body else handler rest x
