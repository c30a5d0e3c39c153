-- The meaning of functions and of whole programs.
use Rattle.std.specs.Prelude.{ℕ, zero, suc, List, [], ◌∷◌, replicate, ℤ, pos, Option, Some, None, slice_get, ⊤}
use Rattle.rtio_types.specs.declared.outcome.Exc.TheVariants.{StackOverflow}
use Rattle.rtio_types.specs.declared.request.Reply.{Reply}
use Rattle.rtio_types.specs.declared.request.Request.{Request}
use Rattle.rtio_types.specs.declared.request.Value.{Value}
use Rattle.rtio_types.specs.declared.request.Value.TheVariants as W
use Rattle.kern_syntax.specs.Tree.{Bytes, FunctionTree, ProgramTree}
use Rattle.kern_calls.specs.declared.types.ValueType.{ValueType}
use Rattle.kern_calls.specs.declared.types.ValueType.TheVariants as V
use Rattle.kern_calls.specs.Types.{Names, function_named, names_of}
use Rattle.timeline_sem.specs.Actions.{State, Reason, return, raised, budget, unanswered, Completion}
use Rattle.timeline_sem.specs.Actions.{normal, early, Action, give, stop, take_unit, ◌>>◌}
use Rattle.timeline_sem.specs.Expressions.{Callee}
use Rattle.timeline_sem.specs.Statements.{block}
use Rattle.timeline_sem.specs.declared.meant.MeantOutcome.{MeantOutcome}
use Rattle.timeline_sem.specs.declared.meant.MeantOutcome.TheVariants as M

-- the value that a name starts with: 0, False or an array of 0
abbrev pub initial_value : ValueType → Value
initial_value (V.Array n) = W.List (replicate n (pos 0))
initial_value _ = W.Int (pos 0)

-- the values of the names when a function begins: the parameters have the arguments
abbrev pub initial_values : Names → List ℤ → List (Bytes × Value)
initial_values [] args = []
initial_values (name ∷ rest) [] = (name.0, initial_value name.1) ∷ initial_values rest []
initial_values (name ∷ rest) (arg ∷ args) = (name.0, W.Int arg) ∷ initial_values rest args

-- a function's end: its value is that of the `return` that was reached, and else 0; the caller's names are back
abbrev pub leave_function : List (Bytes × Value) → Completion ⊤ → Completion ℤ
leave_function values (normal a s) = normal (pos 0) (record s { values = values })
leave_function values (early (return v) s) = normal v (record s { values = values })
leave_function values (early reason s) = early reason (record s { values = values })

-- the body of a function, with its own names
abbrev pub function_body : ProgramTree → Callee → FunctionTree → List ℤ → Action ℤ
function_body program callee f args s =
    leave_function
    s.values
    (block
    (record { program = program; names = names_of program f })
    callee
    f.body
    (record s { values = initial_values (names_of program f) args }))

-- the function, if there is one
abbrev pub optional_body : ProgramTree → Callee → Option FunctionTree → List ℤ → Action ℤ
optional_body program callee (Some f) args = function_body program callee f args
optional_body program callee None args = give (pos 0)

-- a call, where so many further functions may be active: it takes a unit, and then raises or runs
abbrev pub function_call : ProgramTree → (room : ℕ) → Callee
function_call program zero name args = take_unit >> stop (raised StackOverflow)
function_call program (suc room) name args =
    take_unit >> optional_body program (function_call program room) (function_named program name) args

-- what a whole function gives: its requests, cursor, units and outcome
pub record Meaning : Type 0 where
  pub requests : List Request
  pub cursor : ℤ
  pub units : ℕ
  pub outcome : MeantOutcome

-- an early end of a whole function as its outcome
abbrev pub outcome_of : Reason → MeantOutcome
outcome_of (raised x) = M.Raised x
outcome_of budget = M.Budget
outcome_of unanswered = M.Unanswered
outcome_of _ = M.Returned

-- what a function's completion means
abbrev pub meaning_of : Completion ℤ → Meaning
meaning_of (normal v s) =
    record { requests = s.asked; cursor = s.cursor; units = s.units; outcome = M.Returned }
meaning_of (early reason s) =
    record { requests = s.asked; cursor = s.cursor; units = s.units; outcome = outcome_of reason }

-- the state before a function: nothing is asked or collected
abbrev pub opening : (cursor : ℤ) (units : ℕ) (replies : List Reply) → State
opening cursor units replies =
    record { values = []; cursor = cursor; units = units; collected = None; replies = replies; asked = [] }

-- at most 64 functions are active, the first one being one of them
abbrev pub call_room : ℕ
call_room = 63

-- the meaning of a function of a program under some replies
abbrev pub meaning : ProgramTree → (function : ℕ) → (args : List ℤ) → (cursor : ℤ) (units : ℕ) → List Reply → Meaning
meaning program function args cursor units replies =
    meaning_of
    (optional_body
    program
    (function_call program call_room)
    (slice_get program function)
    args
    (opening cursor units replies))
