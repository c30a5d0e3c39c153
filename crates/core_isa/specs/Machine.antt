-- The processor's state, and what is common to its instructions.
use Rattle.std.specs.Prelude.{ℕ, zero, suc, ◌+◌, ◌-◌, List, [], ◌∷◌, ◌++◌, length, drop, ℤ}
use Rattle.std.specs.Prelude.{pos, Bool, true, false, not, ◌&&◌, ◌==◌, Option, Some, None}
use Rattle.rtio_types.specs.declared.event.Event.{Event}
use Rattle.rtio_types.specs.declared.outcome.Exc.{Exc}
use Rattle.rtio_types.specs.declared.outcome.Exc.TheVariants.{RTIOUnderflow, RTIOOverflow, DMAError}
use Rattle.rtio_types.specs.declared.outcome.Exc.TheVariants.{ZeroDivisionError, IndexError, StackOverflow}
use Rattle.rtio_types.specs.declared.request.Request.{Request}
use Rattle.rtio_types.specs.declared.request.Reply.{Reply}
use Rattle.rtio_types.specs.Replies.{raised_by}
use Rattle.core_isa.specs.declared.code.CodeFunction.{CodeFunction}

-- where a raised exception goes on: the place, the height to which the operands are cut, and whether a recording was
-- open when the handler was added
pub record HandlerPoint : Type 0 where
  pub place : ℕ
  pub height : ℕ
  pub recording : Bool

-- an active function: the place of its instruction, its slots, its operands and its handlers, the last ones first
pub record Frame : Type 0 where
  pub function : CodeFunction
  pub place : ℕ
  pub slots : List ℤ
  pub operands : List ℤ
  pub handlers : List HandlerPoint

-- an open recording: its name, the cursor before it, the outputs so far, and how many callers its function has
pub record OpenRecording : Type 0 where
  pub name : List ℕ
  pub saved : ℤ
  pub events : List Event
  pub callers : ℕ

-- the frame that runs, those of its callers, the nearest first, the cursor, the units left, the open recording if there
-- is one, the replies left, the requests asked, and the count of instructions begun
pub record Machine : Type 0 where
  pub top : Frame
  pub callers : List Frame
  pub cursor : ℤ
  pub units : ℕ
  pub recording : Option OpenRecording
  pub replies : List Reply
  pub asked : List Request
  pub steps : ℕ

-- how a run ends
pub data MachineEnd : Type 0 where
  returned : MachineEnd
  raised : Exc → MachineEnd
  budget unanswered : MachineEnd

-- what one instruction leads to
pub data Next : Type 0 where
  goes : Machine → Next
  ends : MachineEnd → Machine → Next
  stuck : Next

-- the machine with another frame on top, with other operands, or at another place
abbrev pub with_top : Machine → Frame → Machine
with_top m frame = record m { top = frame }

-- the machine with other operands in its top frame
abbrev pub with_operands : Machine → List ℤ → Machine
with_operands m operands = with_top m (record m.top { operands = operands })

-- the machine with other slots in its top frame
abbrev pub with_slots : Machine → List ℤ → Machine
with_slots m slots = with_top m (record m.top { slots = slots })

-- the machine at another place of its function
abbrev pub at_place : Machine → ℕ → Machine
at_place m place = with_top m (record m.top { place = place })

-- goes on at the next place
abbrev pub next : Machine → Next
next m = goes (at_place m (m.top.place + 1))

-- goes on at the next place with a value upon the operands
abbrev pub push : ℤ → Machine → Next
push v m = next (with_operands m (v ∷ m.top.operands))

-- the cursor where an open recording is dropped: the one before it
abbrev pub cursor_before : Option OpenRecording → ℤ → ℤ
cursor_before None t = t
cursor_before (Some open_one) t = open_one.saved

-- the machine without its open recording, which gives back its cursor
abbrev pub drop_recording : Machine → Machine
drop_recording m = record m { cursor = cursor_before m.recording m.cursor; recording = None }

-- drops the open recording where the test says so
abbrev pub drop_if : Bool → Machine → Machine
drop_if false m = m
drop_if true m = drop_recording m

-- the codes of the exceptions
abbrev pub code_of : Exc → ℤ
code_of RTIOUnderflow = pos 1
code_of RTIOOverflow = pos 2
code_of DMAError = pos 3
code_of ZeroDivisionError = pos 4
code_of IndexError = pos 5
code_of StackOverflow = pos 6

-- the exception of a code; 6 where it is none
abbrev pub exception_of : ℤ → Exc
exception_of (pos (suc zero)) = RTIOUnderflow
exception_of (pos (suc (suc zero))) = RTIOOverflow
exception_of (pos (suc (suc (suc zero)))) = DMAError
exception_of (pos (suc (suc (suc (suc zero))))) = ZeroDivisionError
exception_of (pos (suc (suc (suc (suc (suc zero)))))) = IndexError
exception_of _ = StackOverflow

-- the open recording was opened by the frame with so many callers
abbrev pub opened_by : ℕ → Option OpenRecording → Bool
opened_by n None = false
opened_by n (Some open_one) = open_one.callers == n

-- the operands cut to a height
abbrev pub cut_to : ℕ → List ℤ → List ℤ
cut_to height operands = drop (length operands - height) operands

-- the top frame opened the recording that is open, and it did so after it added the handler
abbrev pub opened_since : HandlerPoint → Machine → Bool
opened_since handler m = not handler.recording && opened_by (length m.callers) m.recording

-- goes on at a handler with the exception's code; a recording opened since the handler was added is dropped
abbrev pub go_to_handler : Exc → HandlerPoint → List HandlerPoint → Machine → Next
go_to_handler x handler rest m =
    goes
    (with_top
    (drop_if (opened_since handler m) m)
    (record m.top { place = handler.place; operands = code_of x ∷ cut_to handler.height m.top.operands; handlers = rest }))

-- at the last handler of the top frame, and where it has none, as said
abbrev pub raise_at : Exc → List HandlerPoint → Machine → (otherwise : Next) → Next
raise_at x [] m otherwise = otherwise
raise_at x (handler ∷ rest) m otherwise = go_to_handler x handler rest m

-- the machine with this frame on top of these callers
abbrev pub at_frame : Frame → List Frame → Machine → Machine
at_frame frame callers m = record m { top = frame; callers = callers }

-- raises in a frame: at its last handler, or else in its caller, or else at the end
abbrev pub raise_in : Exc → Frame → (callers : List Frame) → Machine → Next
raise_in x frame [] m =
    raise_at x frame.handlers (at_frame frame [] m) (ends (raised x) (drop_if (opened_by 0 m.recording) (at_frame frame [] m)))
raise_in x frame (caller ∷ callers) m =
    raise_at
    x
    frame.handlers
    (at_frame frame (caller ∷ callers) m)
    (raise_in x caller callers (drop_if (opened_by (length (caller ∷ callers)) m.recording) m))

-- raises an exception in the frame that runs
abbrev pub raise : Exc → Machine → Next
raise x m = raise_in x m.top m.callers m

-- takes one of so many units
abbrev pub unit_of : ℕ → (Machine → Next) → Machine → Next
unit_of zero go m = ends budget (drop_recording m)
unit_of (suc left) go m = go (record m { units = left })

-- takes a unit; where none is left the run ends, and an open recording is dropped
abbrev pub unit_then : (Machine → Next) → Machine → Next
unit_then go m = unit_of m.units go m

-- goes on, or raises what a reply raises
abbrev pub raise_or : Option Exc → (Machine → Next) → Machine → Next
raise_or None go m = go m
raise_or (Some x) go m = raise x m

-- goes on with the first of these replies, or ends where there is none; an open recording is then dropped
abbrev pub answered : List Reply → (Reply → Machine → Next) → Machine → Next
answered [] go m = ends unanswered (drop_recording m)
answered (reply ∷ rest) go m = raise_or (raised_by reply) (go reply) (record m { replies = rest })

-- makes a request whose unit is taken; where no reply is left the run ends
abbrev pub ask_then : Request → (Reply → Machine → Next) → Machine → Next
ask_then request go m = answered m.replies go (record m { asked = m.asked ++ request ∷ [] })

-- takes a unit and makes a request: its reply is given, or raises
abbrev pub request_then : Request → (Reply → Machine → Next) → Machine → Next
request_then request go m = unit_then (ask_then request go) m
