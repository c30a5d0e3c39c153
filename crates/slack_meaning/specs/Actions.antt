-- What a part of a kernel does in a run without a core: as in the meaning on the timeline, but that values and the
-- cursor may be spans, and that in place of replies it has bounds for the core's limit and readings. It stops at the
-- first output that may come too late, and where it can't go on.
use Rattle.std.specs.Prelude.{ℕ, zero, suc, List, Bool, true, false, ◌||◌, Option, ⊤, ℤ}
use Rattle.rtio_types.specs.declared.outcome.Exc.{Exc}
use Rattle.kern_syntax.specs.Tree.{Bytes}
use Rattle.slack_meaning.specs.declared.verdict.OpenKind.{OpenKind}
use Rattle.slack_meaning.specs.declared.verdict.OpenKind.TheVariants as K
pub use Rattle.slack_meaning.specs.declared.span.SpanEvent.{SpanEvent}
pub use Rattle.slack_meaning.specs.declared.verdict.Stopped.{Stopped}
use Rattle.slack_meaning.specs.declared.verdict.Stopped.TheVariants as W
use Rattle.slack_meaning.specs.Spans.{Span, is_number, is_near}

-- a recording whose stamps and length may be spans
pub record SpanRecording : Type 0 where
  pub events : List SpanEvent
  pub length : Span

-- what a name holds
pub data Held : Type 0 where
  number : Span → Held
  list : List Span → Held

-- the values of the names, the cursor, the units left, the outputs collected in a record block if one is open; a bound
-- that the core's limit doesn't exceed, the least that its counter reads, how many outputs and how many requests were
-- asked; the names saved in this run, each with its last recording if it wasn't erased since; the cost of a request,
-- and how many events a lane takes at least
pub record State : Type 0 where
  pub values : List (Bytes × Held)
  pub cursor : Span
  pub units : ℕ
  pub collected : Option (List SpanEvent)
  pub limit : ℕ
  pub least : ℕ
  pub outs : ℕ
  pub requests : ℕ
  pub saved : List (Bytes × Option SpanRecording)
  pub cost : ℕ
  pub depth : ℕ

-- why a part ends early: as on the timeline, or because the verdict stands
pub data Reason : Type 0 where
  break continue : Reason
  return : (value : Span) → Reason
  raised : Exc → Reason
  budget : Reason
  decided : Stopped → Reason

-- how a part ends: normally with a value, or early
pub data Completion (A : Type 0) : Type 0 where
  normal : A → State → Completion A
  early : Reason → State → Completion A

-- what a part does from each state
abbrev pub Action : Type 0 → Type 0
Action A = State → Completion A

-- goes on after a normal end
abbrev pub go_on : {A B : Type 0} → Completion A → (A → Action B) → Completion B
go_on (normal a s) next = next a s
go_on (early reason s) next = early reason s

infixr 20 ◌>>=◌ ◌>>◌
-- one part and then another that takes its value
abbrev pub ◌>>=◌ : {A B : Type 0} → Action A → (A → Action B) → Action B
(first >>= next) s = go_on (first s) next

-- one part and then another
abbrev pub ◌>>◌ : {A B : Type 0} → Action A → Action B → Action B
(first >> next) s = go_on (first s) (λ a. next)

-- gives a value and changes nothing
abbrev pub give : {A : Type 0} → A → Action A
give a s = normal a s

-- gives no value
abbrev pub skip : Action ⊤
skip s = normal tt s

-- ends early
abbrev pub stop : {A : Type 0} → Reason → Action A
stop reason s = early reason s

-- can't go on
abbrev pub leave_open : {A : Type 0} → OpenKind → Action A
leave_open why s = early (decided (W.Unknown s.requests why)) s

-- takes a unit, or ends where none is left
abbrev pub take_unit_of : ℕ → Action ⊤
take_unit_of zero s = early budget s
take_unit_of (suc left) s = normal tt (record s { units = left })

-- takes a unit, or ends where none is left
abbrev pub take_unit : Action ⊤
take_unit s = take_unit_of s.units s

-- reads the cursor
abbrev pub cursor_now : Action Span
cursor_now s = normal s.cursor s

-- sets the cursor
abbrev pub set_cursor : Span → Action ⊤
set_cursor t s = normal tt (record s { cursor = t })

-- the number that a span is, by whether it is one
abbrev pub number_if : Bool → Span → Action ℤ
number_if true span = give span.least
number_if false span = leave_open K.Span

-- the number that a span is, where a number is wanted
abbrev pub as_number : Span → Action ℤ
as_number span = number_if (is_number span) span

-- a span, by whether it may stand
abbrev pub span_if : Bool → Span → Action Span
span_if true span = give span
span_if false span = leave_open K.Far

-- a sum with a span, which isn't a number, may not reach too far
abbrev pub within_near : Span → Action Span
within_near span = span_if (is_near span) span

-- a span that may not reach too far; a number may
abbrev pub within_reach : Span → Action Span
within_reach span = span_if (is_number span || is_near span) span
