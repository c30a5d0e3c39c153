-- What holds of every state of a run of marked code.
use Rattle.std.specs.Prelude.{◌≡◌, ◌≢◌, ℕ, ◌+◌, ◌≤◌, List, [], ◌∷◌, length, ℤ, Bool, true, false, not}
use Rattle.std.specs.Prelude.{◌||◌, ◌==◌, nat_le, nat_lt, if◌then◌else◌, slice_get, Option, Some, None}
use Rattle.rtio_types.specs.declared.request.Reply.{Reply}
use Rattle.core_isa.specs.declared.code.Code.{Code}
use Rattle.core_isa.specs.declared.code.CodeFunction.{CodeFunction}
use Rattle.core_isa.specs.Machine.{HandlerPoint, Frame, OpenRecording, Machine, Next, goes, ends, stuck, opened_by}
use Rattle.core_isa.specs.Marks.{function_index, mark_at, values_of}
use Rattle.core_isa.specs.Runs.{boot, step, steps}

-- the open recording was opened by a frame with fewer callers
abbrev pub opened_below : ℕ → Option OpenRecording → Bool
opened_below n None = false
opened_below n (Some open_one) = nat_lt open_one.callers n

-- the open recording was opened by a frame with at most so many callers
abbrev pub IsOpenedWithin : ℕ → Option OpenRecording → Type 0
IsOpenedWithin n None = Unit {0}
IsOpenedWithin n (Some open_one) = open_one.callers ≤ n

-- a place of a function, with its mark
pub record StandsAt (code : Code) (index place height tries rec : ℕ) : Type 0 where
  pub same : function_index code place ≡ index
  pub marked : mark_at code place ≡ Some (record { height = height; tries = tries; rec = rec })

-- the recording that a handler finds open in its frame: that
-- of the frame, if it was opened before the handler was added
abbrev pub rec_below : (rec tries : ℕ) → ℕ
rec_below rec tries = if nat_le rec (tries + 1) then rec else 0

-- a handler above so many others: its place has their mark with one operand, and it knows whether a recording was open,
-- be it its frame's or that of a caller
pub record HandlerFits (code : Code) (index : ℕ) (below : Bool) (rec tries : ℕ) (handler : HandlerPoint) : Type 0 where
  pub stands : StandsAt code index handler.place 1 tries rec
  pub bare : handler.height ≡ 0
  pub knows : handler.recording ≡ (below || not (rec == 0))

-- the handlers of a frame, the last one first
abbrev pub HandlersFit : Code → (index : ℕ) → (below : Bool) → (rec : ℕ) → List HandlerPoint → Type 0
HandlersFit code index below rec [] = Unit {0}
HandlersFit code index below rec (handler ∷ rest) =
    HandlerFits code index below (rec_below rec (length rest)) (length rest) handler × HandlersFit code index below rec rest

-- a frame of a function, wherever it stands: whether the open recording is its own, and whether it is a caller's
pub record FrameKeeps (code : Code) (index rec : ℕ) (own below : Bool) (f : CodeFunction) (slots : ℕ) (handlers : List HandlerPoint) : Type 0 where
  pub found : slice_get code.functions index ≡ Some f
  pub full : slots ≡ f.slots
  pub owns : own ≡ not (rec == 0)
  pub bounded : rec ≤ length handlers + 1
  pub plain : below ≡ true → f.plain ≡ true
  pub handled : HandlersFit code index below rec handlers

-- a frame with so many callers that is about to stand at a place with so many operands
pub record FrameFits (code : Code) (recording : Option OpenRecording) (callers : ℕ) (frame : Frame) (place height : ℕ) : Type 0 where
  pub index : ℕ
  pub rec : ℕ
  pub keeps : FrameKeeps code index rec (opened_by callers recording) (opened_below callers recording) frame.function (length frame.slots) frame.handlers
  pub stands : StandsAt code index place height (length frame.handlers) rec

-- the callers of a function, each about to stand behind its call with the value
abbrev pub CallersFit : Code → Option OpenRecording → (called : CodeFunction) → List Frame → Type 0
CallersFit code recording called [] = Unit {0}
CallersFit code recording called (caller ∷ callers) =
    FrameFits code recording (length callers) caller (caller.place + 1) (length caller.operands + values_of called)
    × CallersFit code recording caller.function callers

-- a state of a run of marked code: each frame has what the mark of its place says
pub record IsSound (code : Code) (m : Machine) : Type 0 where
  pub top : FrameFits code m.recording (length m.callers) m.top m.top.place (length m.top.operands)
  pub callers : CallersFit code m.recording m.top.function m.callers
  pub within : IsOpenedWithin (length m.callers) m.recording

-- what a step leads to is such a state or an end
abbrev pub StaysSound : Code → Next → Type 0
StaysSound code (goes m) = IsSound code m
StaysSound code (ends outcome m) = Unit {0}
StaysSound code stuck = ⊥

-- so it is from each such state on
abbrev pub StepsStaySound : Code → Type 0
StepsStaySound code = (m : Machine) → IsSound code m → StaysSound code (step code m)

-- a run of a function of the code, with as many arguments as parameters, begins in such a state
abbrev pub BeginsSound : Code → Type 0
BeginsSound code =
    (function : ℕ) (f : CodeFunction)
    → slice_get code.functions function ≡ Some f
    → (args : List ℤ)
    → length args ≡ f.params
    → (cursor : ℤ) (units : ℕ) (replies : List Reply)
    → IsSound code (boot f args cursor units replies)

-- no such run lacks anything, however many steps it makes
abbrev pub NeverStuck : Code → Type 0
NeverStuck code =
    (function : ℕ) (f : CodeFunction)
    → slice_get code.functions function ≡ Some f
    → (args : List ℤ)
    → length args ≡ f.params
    → (cursor : ℤ) (units : ℕ) (replies : List Reply) (n : ℕ)
    → steps code n (boot f args cursor units replies) ≢ stuck
