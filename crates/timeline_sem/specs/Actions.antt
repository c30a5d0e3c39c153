-- What a part of a kernel does: it takes a state to a new one, and gives a value or ends early.
use Rattle.std.specs.Prelude.{ℕ, zero, suc, List, [], ◌∷◌, ◌++◌, ℤ, Option, Some, None, ⊤}
use Rattle.rtio_types.specs.declared.event.Event.{Event}
use Rattle.rtio_types.specs.declared.outcome.Exc.{Exc}
use Rattle.rtio_types.specs.declared.request.Request.{Request}
use Rattle.rtio_types.specs.declared.request.Reply.{Reply}
use Rattle.rtio_types.specs.Replies.{raised_by}
use Rattle.rtio_types.specs.declared.request.Value.{Value}
use Rattle.kern_syntax.specs.Tree.{Bytes}

-- the values of the names, the cursor, the units left, the outputs collected in a record block if one is open,
-- the replies left, and the requests asked so far
pub record State : Type 0 where
  pub values : List (Bytes × Value)
  pub cursor : ℤ
  pub units : ℕ
  pub collected : Option (List Event)
  pub replies : List Reply
  pub asked : List Request

-- why a part ends early
pub data Reason : Type 0 where
  break continue : Reason
  return : (value : ℤ) → Reason
  raised : Exc → Reason
  budget unanswered : Reason

-- how a part ends: normally with a value, or early
pub data Completion (A : Type 0) : Type 0 where
  normal : A → State → Completion A
  early : Reason → State → Completion A

-- what a part does from each state
abbrev pub Action : Type 0 → Type 0
Action A = State → Completion A

-- goes on after a normal end
abbrev pub go_on : {A B : Type 0} → Completion A → (A → Action B) → Completion B
go_on (normal a s) next = next a s
go_on (early reason s) next = early reason s

infixr 20 ◌>>=◌ ◌>>◌
-- one part and then another that takes its value
abbrev pub ◌>>=◌ : {A B : Type 0} → Action A → (A → Action B) → Action B
(first >>= next) s = go_on (first s) next

-- one part and then another
abbrev pub ◌>>◌ : {A B : Type 0} → Action A → Action B → Action B
(first >> next) s = go_on (first s) (λ a. next)

-- gives a value and changes nothing
abbrev pub give : {A : Type 0} → A → Action A
give a s = normal a s

-- gives no value
abbrev pub skip : Action ⊤
skip s = normal tt s

-- ends early
abbrev pub stop : {A : Type 0} → Reason → Action A
stop reason s = early reason s

-- takes a unit, or ends where none is left
abbrev pub take_unit_of : ℕ → Action ⊤
take_unit_of zero s = early budget s
take_unit_of (suc left) s = normal tt (record s { units = left })

-- takes a unit, or ends where none is left
abbrev pub take_unit : Action ⊤
take_unit s = take_unit_of s.units s

-- takes the next reply, or ends where none is left
abbrev pub next_reply_of : List Reply → Action Reply
next_reply_of [] s = early unanswered s
next_reply_of (reply ∷ rest) s = normal reply (record s { replies = rest })

-- a reply, or the exception that it raises
abbrev pub raise_if : Option Exc → Reply → Action Reply
raise_if None reply = give reply
raise_if (Some x) reply = stop (raised x)

-- makes a request whose unit is taken: its reply is given, or raises
abbrev pub ask : Request → Action Reply
ask request s =
    go_on (next_reply_of s.replies (record s { asked = s.asked ++ request ∷ [] })) (λ reply. raise_if (raised_by reply) reply)

-- takes a unit and makes a request
abbrev pub request : Request → Action Reply
request q = take_unit >> ask q

-- reads the cursor
abbrev pub cursor_now : Action ℤ
cursor_now s = normal s.cursor s

-- sets the cursor
abbrev pub set_cursor : ℤ → Action ⊤
set_cursor t s = normal tt (record s { cursor = t })
