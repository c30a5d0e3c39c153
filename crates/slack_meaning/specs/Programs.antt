-- The run of a whole kernel without a core, and its verdict.
use Rattle.std.specs.Prelude.{ℕ, zero, suc, List, [], ◌∷◌, replicate, pos, Option, Some, None, slice_get, ⊤}
use Rattle.limits.specs.Limits.{most_budget}
use Rattle.rtio_types.specs.declared.outcome.Exc.TheVariants.{StackOverflow}
use Rattle.kern_syntax.specs.Tree.{Bytes, FunctionTree, ProgramTree}
use Rattle.kern_calls.specs.declared.types.ValueType.{ValueType}
use Rattle.kern_calls.specs.declared.types.ValueType.TheVariants as T
use Rattle.kern_calls.specs.Types.{Names, function_named, names_of}
use Rattle.timeline_sem.specs.Programs.{call_room}
use Rattle.slack_meaning.specs.declared.verdict.Verdict.{Verdict}
use Rattle.slack_meaning.specs.declared.verdict.Verdict.TheVariants as V
use Rattle.slack_meaning.specs.declared.verdict.Stopped.TheVariants as W
use Rattle.slack_meaning.specs.Spans.{Span, exactly}
use Rattle.slack_meaning.specs.Actions.{Held, number, list, State, Stopped, return, raised, decided}
use Rattle.slack_meaning.specs.Actions.{Completion, normal, early, Action, give, stop, take_unit, ◌>>◌}
use Rattle.slack_meaning.specs.Expressions.{Callee}
use Rattle.slack_meaning.specs.Statements.{block}

-- what a name starts with: 0, False or an array of 0
abbrev pub initial_value : ValueType → Held
initial_value (T.Array n) = list (replicate n (exactly (pos 0)))
initial_value _ = number (exactly (pos 0))

-- the values of the names when a function begins: the parameters have the arguments
abbrev pub initial_values : Names → List Span → List (Bytes × Held)
initial_values [] args = []
initial_values (name ∷ rest) [] = (name.0, initial_value name.1) ∷ initial_values rest []
initial_values (name ∷ rest) (arg ∷ args) = (name.0, number arg) ∷ initial_values rest args

-- a function's end: its value is that of the `return` that was reached, and else 0; the caller's names are back
abbrev pub leave_function : List (Bytes × Held) → Completion ⊤ → Completion Span
leave_function values (normal a s) = normal (exactly (pos 0)) (record s { values = values })
leave_function values (early (return v) s) = normal v (record s { values = values })
leave_function values (early reason s) = early reason (record s { values = values })

-- the body of a function, with its own names
abbrev pub function_body : ProgramTree → Callee → FunctionTree → List Span → Action Span
function_body program callee f args s =
    leave_function
    s.values
    (block
    (record { program = program; names = names_of program f })
    callee
    f.body
    (record s { values = initial_values (names_of program f) args }))

-- the function, if there is one
abbrev pub optional_body : ProgramTree → Callee → Option FunctionTree → List Span → Action Span
optional_body program callee (Some f) args = function_body program callee f args
optional_body program callee None args = give (exactly (pos 0))

-- a call, where so many further functions may be active: it takes a unit, and then raises or runs
abbrev pub function_call : ProgramTree → (room : ℕ) → Callee
function_call program zero name args = take_unit >> stop (raised StackOverflow)
function_call program (suc room) name args =
    take_unit >> optional_body program (function_call program room) (function_named program name) args

-- the state before a kernel: cursor 0, a limit and a reading of 0, nothing asked, collected or saved
abbrev pub opening : (units cost depth : ℕ) → State
opening units cost depth = record {
  values = [];
  cursor = exactly (pos 0);
  units = units;
  collected = None;
  limit = 0;
  least = 0;
  outs = 0;
  requests = 0;
  saved = [];
  cost = cost;
  depth = depth;
}

-- the verdict where a run stopped
abbrev pub verdict_where : Stopped → Verdict
verdict_where (W.TooLate at event limit) = V.No at event limit
verdict_where (W.Unknown requests why) = V.Open requests why

-- the verdict at a run's end: the one that stopped it, and else yes, however it ended
abbrev pub verdict_of : {A : Type 0} → Completion A → Verdict
verdict_of (normal v s) = V.Yes s.outs
verdict_of (early (decided stopped) s) = verdict_where stopped
verdict_of (early reason s) = V.Yes s.outs

-- the verdict on a function that takes no arguments, at a cost, for lanes of at least that depth
abbrev pub slack_verdict : ProgramTree → (function cost depth : ℕ) → Verdict
slack_verdict program function cost depth =
    verdict_of
    (optional_body
    program
    (function_call program call_room)
    (slice_get program function)
    []
    (opening most_budget cost depth))
