-- What each instruction does.
use Rattle.std.specs.Prelude.{ℕ, ◌+◌, ◌-◌, List, [], ◌∷◌, ◌++◌, length, take, drop, reverse, replicate, ℤ, pos}
use Rattle.std.specs.Prelude.{negsuc, ◌+ℤ◌, ◌-ℤ◌, ◌*ℤ◌, neg_ℤ, int_lt, int_le, Bool, true, false, not, nat_le}
use Rattle.std.specs.Prelude.{nat_lt, if◌then◌else◌, slice_get, slice_set, Option, Some, None, is_some}
use Rattle.std.specs.Int.{w32, w64, int_wrap, int_max, int_shr, int_bit_and, int_bit_or, int_bit_xor}
use Rattle.std.specs.Ordering.{int_eq}
use Rattle.rtio_types.specs.declared.event.Event.{Event}
use Rattle.rtio_types.specs.declared.outcome.Exc.{Exc}
use Rattle.rtio_types.specs.declared.outcome.Exc.TheVariants.{ZeroDivisionError, IndexError, StackOverflow}
use Rattle.rtio_types.specs.declared.request.Request.{Request}
use Rattle.rtio_types.specs.declared.request.Request.TheVariants as Q
use Rattle.rtio_types.specs.declared.request.Reply.{Reply}
use Rattle.rtio_types.specs.declared.request.Reply.TheVariants as R
use Rattle.rtio_types.specs.declared.request.Value.TheVariants as W
use Rattle.rtio_types.specs.Integers.{number_of, is_true, floor_quotient, floor_remainder}
use Rattle.rtio_types.specs.Integers.{nonzero, shift_distance, shift_factor, low_bits}
use Rattle.rtio_types.specs.Replies.{number_in}
use Rattle.rtio_types.specs.Time.{later, shifted}
use Rattle.core_isa.specs.declared.code.Code.{Code}
use Rattle.core_isa.specs.declared.code.CodeFunction.{CodeFunction}
use Rattle.core_isa.specs.declared.instr.Instr.{Instr}
use Rattle.core_isa.specs.declared.instr.Instr.TheVariants as I
use Rattle.core_isa.specs.Machine.{HandlerPoint, Frame, OpenRecording, Machine, returned, Next, goes}
use Rattle.core_isa.specs.Machine.{ends, stuck, with_top, with_operands, with_slots, at_place, next}
use Rattle.core_isa.specs.Machine.{push, exception_of, raise, unit_then, ask_then, request_then}

-- goes on with the first of these operands
abbrev pub on_first : List ℤ → (ℤ → Machine → Next) → Machine → Next
on_first [] go m = stuck
on_first (a ∷ rest) go m = go a (with_operands m rest)

-- the topmost operand
abbrev pub on_one : Machine → (ℤ → Machine → Next) → Next
on_one m go = on_first m.top.operands go m

-- the two topmost operands, in the order in which they were pushed
abbrev pub on_two : Machine → (ℤ → ℤ → Machine → Next) → Next
on_two m go = on_one m (λ b m'. on_one m' (λ a. go a b))

-- goes on with what is there, and is stuck where nothing is
abbrev pub on_some : {A : Type 0} → Option A → (A → Next) → Next
on_some None go = stuck
on_some (Some a) go = go a

-- a result, or an exception where there is none
abbrev pub push_or_raise : Exc → Option ℤ → Machine → Next
push_or_raise x None m = raise x m
push_or_raise x (Some v) m = push v m

-- an operator's result, which wraps at 64 bits
abbrev pub wraps : (ℤ → ℤ → ℤ) → Machine → Next
wraps f m = on_two m (λ a b. push (int_wrap w64 (f a b)))

-- a test of two operands
abbrev pub tests : (ℤ → ℤ → Bool) → Machine → Next
tests f m = on_two m (λ a b. push (number_of (f a b)))

-- a quotient or a remainder
abbrev pub divides : (ℤ → ℤ → ℤ) → Machine → Next
divides f m = on_two m (λ a b. push_or_raise ZeroDivisionError (nonzero b (int_wrap w64 (f a b))))

-- the slots of an array, where they are all there
abbrev pub array_at : List ℤ → ℕ → ℕ → Option (List ℤ)
array_at slots s n = if nat_le (s + n) (length slots) then Some (take n (drop s slots)) else None

-- the slots with those of an array anew
abbrev pub with_array : List ℤ → ℕ → List ℤ → List ℤ
with_array slots s items = take s slots ++ items ++ drop (s + length items) slots

-- an index within a length
abbrev pub index_in : ℕ → ℤ → Option ℕ
index_in n (pos i) = if nat_lt i n then Some i else None
index_in n (negsuc i) = None

-- writes a slot that is there
abbrev pub store_slot : ℕ → ℤ → Machine → Next
store_slot s v m = on_some (slice_get m.top.slots s) (λ old. next (with_slots m (slice_set m.top.slots s v)))

-- goes on with an index, or raises where there is none
abbrev pub index_or_raise : Option ℕ → (ℕ → Next) → Machine → Next
index_or_raise None go m = raise IndexError m
index_or_raise (Some i) go m = go i

-- an element of an array
abbrev pub load_at : ℕ → ℕ → ℤ → Machine → Next
load_at s n i m =
    index_or_raise (index_in n i) (λ k. on_some (slice_get m.top.slots (s + k)) (λ v. push v m)) m

-- writes an element of an array
abbrev pub store_at : ℕ → ℕ → ℤ → ℤ → Machine → Next
store_at s n v i m = index_or_raise (index_in n i) (λ k. store_slot (s + k) v m) m

-- the event of an output at the cursor
abbrev pub event_at : ℤ → ℕ → ℕ → ℤ → Event
event_at t channel address v = record { channel = channel; address = address; value = low_bits 32 v; stamp = t }

-- submits an output, or adds it to the open recording
abbrev pub submit_or_collect : Option OpenRecording → Event → Machine → Next
submit_or_collect None event m = ask_then (Q.Out event) (λ reply. next) m
submit_or_collect (Some open_one) event m =
    next (record m { recording = Some (record open_one { events = open_one.events ++ event ∷ [] }) })

-- an output: submitted, or collected by the open recording
abbrev pub output : ℕ → ℕ → ℤ → Machine → Next
output channel address v m = unit_then (submit_or_collect m.recording (event_at m.cursor channel address v)) m

-- a request whose reply's number is pushed
abbrev pub ask_number : Request → Machine → Next
ask_number request m = request_then request (λ reply. push (number_in reply)) m

-- a request whose reply gives no number
abbrev pub ask_only : Request → Machine → Next
ask_only request m = request_then request (λ reply. next) m

-- plays the events of a recording, moved by the cursor, and then moves the cursor by its length
abbrev pub play_events : List Event → ℤ → Machine → Next
play_events [] length m = next (record m { cursor = later m.cursor length })
play_events (event ∷ rest) length m =
    request_then (Q.Out (shifted event m.cursor)) (λ reply. play_events rest length) m

-- plays what a reply brings
abbrev pub play_reply : Reply → Machine → Next
play_reply (R.Trace recording) m = play_events recording.events recording.length m
play_reply _ m = next m

-- fetches a recording and plays it
abbrev pub play : Request → Machine → Next
play request m = request_then request play_reply m

-- opens a recording, where none is open
abbrev pub open_recording : Option OpenRecording → List ℕ → Machine → Next
open_recording (Some open_one) name m = stuck
open_recording None name m =
    next
    (record m { cursor = pos 0; recording = Some (record { name = name; saved = m.cursor; events = []; callers = length m.callers }) })

-- the recording as it is saved, with the cursor as its length
abbrev pub save_request : OpenRecording → ℤ → Request
save_request open_one t = Q.Save open_one.name (record { events = open_one.events; length = t })

-- saves the open recording: it is closed before the request is made
abbrev pub save_recording : Option OpenRecording → Machine → Next
save_recording None m = stuck
save_recording (Some open_one) m =
    unit_then (λ m'. ask_then (save_request open_one m.cursor) (λ reply. next) (record m' { cursor = open_one.saved; recording = None })) m

-- the first operands of a function are its arguments, the last one on top
abbrev pub enter : CodeFunction → List ℤ → Frame
enter f args =
    record { function = f; place = f.first; slots = args ++ replicate (f.slots - length args) (pos 0); operands = []; handlers = [] }

-- the caller's frame while its call runs, without the arguments
abbrev pub without_arguments : CodeFunction → Frame → Frame
without_arguments f frame = record frame { operands = drop f.params frame.operands }

-- enters the function where its arguments are there
abbrev pub enter_if : Bool → CodeFunction → Machine → Next
enter_if false f m = stuck
enter_if true f m =
    goes
    (record m { top = enter f (reverse (take f.params m.top.operands)); callers = without_arguments f m.top ∷ m.callers })

-- enters the function where a further frame may be
abbrev pub call_if : (room : Bool) → CodeFunction → Machine → Next
call_if false f m = raise StackOverflow m
call_if true f m = enter_if (nat_le f.params (length m.top.operands)) f m

-- a call: a unit, at most 64 frames, and the arguments from the operands
abbrev pub call : CodeFunction → Machine → Next
call f m = unit_then (λ m'. call_if (nat_lt (length m'.callers + 1) 64) f m') m

-- the end of a frame: its caller goes on after the call, with the value if there is one
abbrev pub leave : List Frame → (Machine → Next) → Machine → Next
leave [] go m = ends returned m
leave (caller ∷ callers) go m = go (record m { top = caller; callers = callers })

-- ends the frame, with its value if the function has one
abbrev pub return_from : Bool → Machine → Next
return_from false m = leave m.callers next m
return_from true m = on_one m (λ v m'. leave m'.callers (push v) m')

-- the last handler is removed
abbrev pub end_try : List HandlerPoint → Machine → Next
end_try [] m = stuck
end_try (handler ∷ rest) m = next (with_top m (record m.top { handlers = rest }))

-- a handler for a place, as the machine is now
abbrev pub handler_at : ℕ → Machine → HandlerPoint
handler_at place m = record { place = place; height = length m.top.operands; recording = is_some m.recording }

-- adds a handler
abbrev pub begin_try : ℕ → Machine → Next
begin_try place m = next (with_top m (record m.top { handlers = handler_at place m ∷ m.top.handlers }))

-- a jump where the operand is 0
abbrev pub jump_if_zero : ℕ → ℤ → Machine → Next
jump_if_zero place c m = if is_true c then next m else goes (at_place m place)

module _ (code : Code) where
  -- a name of the code
  abbrev pub named : ℕ → (List ℕ → Next) → Next
  named n go = on_some (slice_get code.names n) go

  -- one instruction in a state
  abbrev pub act : Instr → Machine → Next
  act (I.Const v) m = push v m
  act (I.Load s) m = on_some (slice_get m.top.slots s) (λ v. push v m)
  act (I.Store s) m = on_one m (λ v. store_slot s v)
  act (I.LoadAt s n) m = on_one m (load_at s n)
  act (I.StoreAt s n) m = on_two m (store_at s n)
  act I.Add m = wraps ◌+ℤ◌ m
  act I.Sub m = wraps ◌-ℤ◌ m
  act I.Mul m = wraps ◌*ℤ◌ m
  act I.Div m = divides floor_quotient m
  act I.Mod m = divides floor_remainder m
  act I.And m = wraps (int_bit_and w64) m
  act I.Or m = wraps (int_bit_or w64) m
  act I.Xor m = wraps (int_bit_xor w64) m
  act (I.Shl w) m = wraps (λ a n. a *ℤ pos (shift_factor w n)) m
  act (I.Shr w) m = wraps (λ a n. int_shr a (shift_distance w n)) m
  act I.Neg m = on_one m (λ a. push (int_wrap w64 (neg_ℤ a)))
  act I.Inv m = on_one m (λ a. push (int_wrap w64 (neg_ℤ a -ℤ pos 1)))
  act I.Wrap32 m = on_one m (λ a. push (int_wrap w32 a))
  act I.Eq m = tests int_eq m
  act I.Ne m = tests (λ a b. not (int_eq a b)) m
  act I.Lt m = tests int_lt m
  act I.Le m = tests int_le m
  act I.Max m = on_two m (λ a b. push (int_max a b))
  act I.Pop m = on_one m (λ a. next)
  act I.Dup m = on_one m (λ a m'. next (with_operands m' (a ∷ a ∷ m'.top.operands)))
  act (I.Jump p) m = goes (at_place m p)
  act (I.JumpZero p) m = on_one m (jump_if_zero p)
  act I.Turn m = unit_then next m
  act (I.Call f) m = on_some (slice_get code.functions f) (λ called. call called m)
  act I.Return m = return_from m.top.function.value m
  act (I.Try p) m = begin_try p m
  act I.EndTry m = end_try m.top.handlers m
  act I.Raise m = on_one m (λ c. raise (exception_of c))
  act I.Now m = push m.cursor m
  act I.At m = on_one m (λ t m'. next (record m' { cursor = t }))
  act I.Delay m = on_one m (λ d m'. next (record m' { cursor = later m'.cursor d }))
  act (I.Out channel address) m = on_one m (output channel address)
  act (I.OutTo channel) m = on_two m (λ address. output channel (low_bits 8 address))
  act I.Counter m = ask_number Q.Counter m
  act I.Reset m = ask_number Q.Reset m
  act I.Wait m = on_one m (λ t. ask_only (Q.Wait t))
  act (I.Edge channel) m = on_one m (λ up_to. ask_number (Q.Edge channel up_to))
  act (I.Record n) m = named n (λ name. open_recording m.recording name m)
  act I.Save m = save_recording m.recording m
  act (I.Play n) m = named n (λ name. play (Q.Fetch name) m)
  act I.PlayHandle m = on_one m (λ h. play (Q.FetchHandle h))
  act (I.Handle n) m = named n (λ name. ask_number (Q.Handle name) m)
  act (I.Erase n) m = named n (λ name. ask_only (Q.Erase name) m)
  act (I.DataInt n) m = named n (λ name. on_one m (λ v. ask_only (Q.Data name (W.Int v))))
  act (I.DataList n s count) m =
      named n (λ name. on_some (array_at m.top.slots s count) (λ items. ask_only (Q.Data name (W.List items)) m))
  act (I.Fill s n) m =
      on_one m (λ v m'. on_some (array_at m'.top.slots s n) (λ old. next (with_slots m' (with_array m'.top.slots s (replicate n v)))))
