-- What instructions other than those of playback end at, where a reply is lacking: at no request for a recording.
use Rattle.std.proofs.Common.{◌≡◌, ℕ, suc, zero, ◌+◌, List, [], ◌∷◌, ◌++◌, length, Bool, true, false, Option, Some, None, refl, ◌∙◌}
use Rattle.std.specs.Prelude.{ℤ, fold, slice_get, nat_lt, nat_le, slice_set, replicate, if◌then◌else◌}
use Rattle.std.proofs.lemmas.Bool.{true≢false}
use Rattle.std.proofs.lemmas.List.Sums.{fold-append}
use Rattle.rtio_types.specs.declared.event.Event.{Event}
use Rattle.rtio_types.specs.declared.outcome.Exc.{Exc}
use Rattle.rtio_types.specs.declared.outcome.Exc.TheVariants.{ZeroDivisionError, IndexError, StackOverflow}
use Rattle.rtio_types.specs.declared.request.Request.{Request}
use Rattle.rtio_types.specs.declared.request.Request.TheVariants as Q
use Rattle.rtio_types.specs.declared.request.Reply.{Reply}
use Rattle.rtio_types.specs.declared.request.Reply.TheVariants as R
use Rattle.rtio_types.specs.declared.request.Value.TheVariants as W
use Rattle.rtio_types.specs.Integers.{is_true, low_bits}
use Rattle.rtio_types.specs.Replies.{raised_by, number_in}
use Rattle.rtio_types.specs.Time.{shifted}
use Rattle.core_isa.specs.declared.code.Code.{Code}
use Rattle.core_isa.specs.declared.code.CodeFunction.{CodeFunction}
use Rattle.core_isa.specs.declared.instr.Instr.{Instr}
use Rattle.core_isa.specs.declared.instr.Instr.TheVariants as I
use Rattle.core_isa.specs.Machine.{HandlerPoint, Frame, OpenRecording, Machine, Next, goes, ends, stuck, returned, raised, budget, unanswered, with_operands, with_slots, at_place, next, push, opened_by, drop_if, raise_at, raise_in, raise, at_frame, exception_of, raise_or, answered, unit_of, unit_then, ask_then}
use Rattle.core_isa.specs.Steps.{on_one, on_two, on_some, push_or_raise, array_at, with_array, index_in, store_slot, index_or_raise, load_at, store_at, submit_or_collect, event_at, output, ask_number, ask_only, play_events, play_reply, open_recording, save_request, save_recording, enter_if, call_if, call, leave, return_from, end_try, jump_if_zero, named, act}
use Rattle.core_isa.proofs.Lighter.{first_any, two_any, some_any}
use Rattle.kernel_session.specs.Replays.{is_for_recording}

-- the last one of some requests asks for a recording
abbrev pub ends_at_recording : List Request → Bool
ends_at_recording asked = fold (λ _ q. is_for_recording q) false asked

-- an end for want of a reply isn't at a request for a recording
abbrev pub Unplayed : Next → Type 0
Unplayed (ends unanswered m) = ends_at_recording m.asked ≡ false
Unplayed (ends returned m) = Unit {0}
Unplayed (ends (raised x) m) = Unit {0}
Unplayed (ends budget m) = Unit {0}
Unplayed (goes m) = Unit {0}
Unplayed stuck = Unit {0}

-- the instructions that ask for recordings
abbrev pub plays : Instr → Bool
plays (I.Play n) = true
plays I.PlayHandle = true
plays i = false

-- raising
raise_at_unplayed : (x : Exc) (handlers : List HandlerPoint) (m : Machine) (otherwise : Next) → Unplayed otherwise → Unplayed (raise_at x handlers m otherwise)
raise_at_unplayed x [] m otherwise other = other
raise_at_unplayed x (handler ∷ rest) m otherwise other = tt

raise_in_unplayed : (x : Exc) (callers : List Frame) (frame : Frame) (m : Machine) → Unplayed (raise_in x frame callers m)
raise_in_unplayed x [] frame m =
    raise_at_unplayed x frame.handlers (at_frame frame [] m) (ends (raised x) (drop_if (opened_by 0 m.recording) (at_frame frame [] m))) tt
raise_in_unplayed x (caller ∷ callers) frame m =
    raise_at_unplayed
    x
    frame.handlers
    (at_frame frame (caller ∷ callers) m)
    (raise_in x caller callers (drop_if (opened_by (suc (length callers)) m.recording) m))
    (raise_in_unplayed x callers caller (drop_if (opened_by (suc (length callers)) m.recording) m))

raise_unplayed : (x : Exc) (m : Machine) → Unplayed (raise x m)
raise_unplayed x m = raise_in_unplayed x m.callers m.top m

-- units and requests
unit_unplayed : (go : Machine → Next) (m : Machine) → ((left : ℕ) → Unplayed (go (record m { units = left }))) → Unplayed (unit_then go m)
unit_unplayed go m on = by_units m.units
  where
    by_units : (n : ℕ) → Unplayed (unit_of n go m)
    by_units zero = tt
    by_units (suc left) = on left

pub answered_unplayed : (reply : Reply) (replies : List Reply) (go : Reply → Machine → Next) (m : Machine) → ((m' : Machine) → Unplayed (go reply m')) → Unplayed (answered (reply ∷ replies) go m)
answered_unplayed reply replies go m on = by_raised (raised_by reply)
  where
    by_raised : (o : Option Exc) → Unplayed (raise_or o (go reply) (record m { replies = replies }))
    by_raised None = on (record m { replies = replies })
    by_raised (Some x) = raise_unplayed x (record m { replies = replies })

ask_unplayed : (request : Request) (go : Reply → Machine → Next) (m : Machine) → is_for_recording request ≡ false → ((reply : Reply) (m' : Machine) → Unplayed (go reply m')) → Unplayed (ask_then request go m)
ask_unplayed request go m other on = by_replies m.replies
  where
    by_replies : (replies : List Reply) → Unplayed (answered replies go (record m { asked = m.asked ++ request ∷ [] }))
    by_replies [] = fold-append _ _ m.asked (request ∷ []) ∙ other
    by_replies (reply ∷ replies) = answered_unplayed reply replies go (record m { asked = m.asked ++ request ∷ [] }) (on reply)

number_unplayed : (request : Request) (m : Machine) → is_for_recording request ≡ false → Unplayed (ask_number request m)
number_unplayed request m other = unit_unplayed (ask_then request (λ reply. push (number_in reply))) m (λ left. ask_unplayed request (λ reply. push (number_in reply)) (record m { units = left }) other (λ reply m'. tt))

only_unplayed : (request : Request) (m : Machine) → is_for_recording request ≡ false → Unplayed (ask_only request m)
only_unplayed request m other = unit_unplayed (ask_then request (λ reply. next)) m (λ left. ask_unplayed request (λ reply. next) (record m { units = left }) other (λ reply m'. tt))

-- the outputs of a playback
events_unplayed : (events : List Event) (length' : ℤ) (m : Machine) → Unplayed (play_events events length' m)
events_unplayed [] length' m = tt
events_unplayed (event ∷ rest) length' m =
    unit_unplayed
    (ask_then (Q.Out (shifted event m.cursor)) (λ reply. play_events rest length'))
    m
    (λ left. ask_unplayed (Q.Out (shifted event m.cursor)) (λ reply. play_events rest length') (record m { units = left }) refl (λ reply m'. events_unplayed rest length' m'))

pub reply_unplayed : (reply : Reply) (m : Machine) → Unplayed (play_reply reply m)
reply_unplayed (R.Trace recording) m = events_unplayed recording.events recording.length m
reply_unplayed reply m = tt

module _ (code : Code) (m : Machine) where
  one_unplayed : (go : ℤ → Machine → Next) → ((a : ℤ) (rest : List ℤ) → Unplayed (go a (with_operands m rest))) → Unplayed (on_one m go)
  one_unplayed go on = first_any Unplayed m.top.operands go m tt on

  two_unplayed : (go : ℤ → ℤ → Machine → Next) → ((a b : ℤ) (rest : List ℤ) → Unplayed (go a b (with_operands m rest))) → Unplayed (on_two m go)
  two_unplayed go on = two_any Unplayed go m tt on

  result_unplayed : (x : Exc) (o : Option ℤ) (rest : List ℤ) → Unplayed (push_or_raise x o (with_operands m rest))
  result_unplayed x None rest = raise_unplayed x (with_operands m rest)
  result_unplayed x (Some v) rest = tt

  store_unplayed : (s : ℕ) (v : ℤ) (rest : List ℤ) → Unplayed (store_slot s v (with_operands m rest))
  store_unplayed s v rest = some_any Unplayed (slice_get m.top.slots s) (λ old. next (with_slots (with_operands m rest) (slice_set m.top.slots s v))) tt (λ old. tt)

  index_unplayed : (o : Option ℕ) (go : ℕ → Next) (rest : List ℤ) → ((k : ℕ) → Unplayed (go k)) → Unplayed (index_or_raise o go (with_operands m rest))
  index_unplayed None go rest on = raise_unplayed IndexError (with_operands m rest)
  index_unplayed (Some k) go rest on = on k

  named_unplayed : (n : ℕ) (go : List ℕ → Next) → ((name : List ℕ) → Unplayed (go name)) → Unplayed (named code n go)
  named_unplayed n go on = some_any Unplayed (slice_get code.names n) go tt on

  output_unplayed : (channel address : ℕ) (v : ℤ) (rest : List ℤ) → Unplayed (output channel address v (with_operands m rest))
  output_unplayed channel address v rest =
      unit_unplayed (submit_or_collect m.recording event) (with_operands m rest) (λ left. by_recording left m.recording)
    where
      event : Event
      event = event_at m.cursor channel address v

      by_recording : (left : ℕ) (recording : Option OpenRecording) → Unplayed (submit_or_collect recording event (record (with_operands m rest) { units = left }))
      by_recording left None = ask_unplayed (Q.Out event) (λ reply. next) (record (with_operands m rest) { units = left }) refl (λ reply m'. tt)
      by_recording left (Some open_one) = tt

  save_unplayed : (recording : Option OpenRecording) → Unplayed (save_recording recording m)
  save_unplayed None = tt
  save_unplayed (Some open_one) =
      unit_unplayed
      (λ m'. ask_then (save_request open_one m.cursor) (λ reply. next) (record m' { cursor = open_one.saved; recording = None }))
      m
      (λ left. ask_unplayed (save_request open_one m.cursor) (λ reply. next) (record m { units = left; cursor = open_one.saved; recording = None }) refl (λ reply m'. tt))

  open_unplayed : (recording : Option OpenRecording) (name : List ℕ) → Unplayed (open_recording recording name m)
  open_unplayed (Some open_one) name = tt
  open_unplayed None name = tt

  call_unplayed : (called : CodeFunction) → Unplayed (call called m)
  call_unplayed called = unit_unplayed (λ m'. call_if (nat_lt (length m'.callers + 1) 64) called m') m (λ left. by_room left (nat_lt (length m.callers + 1) 64))
    where
      by_arguments : (left : ℕ) (b : Bool) → Unplayed (enter_if b called (record m { units = left }))
      by_arguments left true = tt
      by_arguments left false = tt

      by_room : (left : ℕ) (room : Bool) → Unplayed (call_if room called (record m { units = left }))
      by_room left false = raise_unplayed StackOverflow (record m { units = left })
      by_room left true = by_arguments left (nat_le called.params (length m.top.operands))

  leave_unplayed : (callers : List Frame) (go : Machine → Next) (rest : List ℤ) → ((m' : Machine) → Unplayed (go m')) → Unplayed (leave callers go (with_operands m rest))
  leave_unplayed [] go rest on = tt
  leave_unplayed (caller ∷ callers) go rest on = on (record (with_operands m rest) { top = caller; callers = callers })

  return_unplayed : (b : Bool) → Unplayed (return_from b m)
  return_unplayed false = leave_unplayed m.callers next m.top.operands (λ m'. tt)
  return_unplayed true = one_unplayed (λ v m'. leave m'.callers (push v) m') (λ v rest. leave_unplayed m.callers (push v) rest (λ m'. tt))

  end_try_unplayed : (handlers : List HandlerPoint) → Unplayed (end_try handlers m)
  end_try_unplayed [] = tt
  end_try_unplayed (handler ∷ rest) = tt

  jump_unplayed : (p : ℕ) (c : ℤ) (rest : List ℤ) → Unplayed (jump_if_zero p c (with_operands m rest))
  jump_unplayed p c rest = by_test (is_true c)
    where
      by_test : (b : Bool) → Unplayed (if b then next (with_operands m rest) else goes (at_place (with_operands m rest) p))
      by_test true = tt
      by_test false = tt

  -- each other instruction
  pub act_unplayed : (i : Instr) → plays i ≡ false → Unplayed (act code i m)
  act_unplayed (I.Play n) other = absurd (true≢false other)
  act_unplayed I.PlayHandle other = absurd (true≢false other)
  act_unplayed (I.Load s) other = some_any Unplayed (slice_get m.top.slots s) (λ v. push v m) tt (λ v. tt)
  act_unplayed (I.Store s) other = one_unplayed (λ v. store_slot s v) (λ v rest. store_unplayed s v rest)
  act_unplayed (I.LoadAt s n) other =
      one_unplayed
      (load_at s n)
      (λ i rest.
      index_unplayed
      (index_in n i)
      (λ k. on_some (slice_get m.top.slots (s + k)) (λ v. push v (with_operands m rest)))
      rest
      (λ k. some_any Unplayed (slice_get m.top.slots (s + k)) (λ v. push v (with_operands m rest)) tt (λ v. tt)))
  act_unplayed (I.StoreAt s n) other =
      two_unplayed
      (store_at s n)
      (λ v i rest. index_unplayed (index_in n i) (λ k. store_slot (s + k) v (with_operands m rest)) rest (λ k. store_unplayed (s + k) v rest))
  act_unplayed I.Div other = two_unplayed _ (λ a b rest. result_unplayed ZeroDivisionError _ rest)
  act_unplayed I.Mod other = two_unplayed _ (λ a b rest. result_unplayed ZeroDivisionError _ rest)
  act_unplayed I.Add other = two_unplayed _ (λ a b rest. tt)
  act_unplayed I.Sub other = two_unplayed _ (λ a b rest. tt)
  act_unplayed I.Mul other = two_unplayed _ (λ a b rest. tt)
  act_unplayed I.And other = two_unplayed _ (λ a b rest. tt)
  act_unplayed I.Or other = two_unplayed _ (λ a b rest. tt)
  act_unplayed I.Xor other = two_unplayed _ (λ a b rest. tt)
  act_unplayed (I.Shl w) other = two_unplayed _ (λ a b rest. tt)
  act_unplayed (I.Shr w) other = two_unplayed _ (λ a b rest. tt)
  act_unplayed I.Neg other = one_unplayed _ (λ a rest. tt)
  act_unplayed I.Inv other = one_unplayed _ (λ a rest. tt)
  act_unplayed I.Wrap32 other = one_unplayed _ (λ a rest. tt)
  act_unplayed I.Eq other = two_unplayed _ (λ a b rest. tt)
  act_unplayed I.Ne other = two_unplayed _ (λ a b rest. tt)
  act_unplayed I.Lt other = two_unplayed _ (λ a b rest. tt)
  act_unplayed I.Le other = two_unplayed _ (λ a b rest. tt)
  act_unplayed I.Max other = two_unplayed _ (λ a b rest. tt)
  act_unplayed I.Pop other = one_unplayed _ (λ a rest. tt)
  act_unplayed I.Dup other = one_unplayed _ (λ a rest. tt)
  act_unplayed (I.JumpZero p) other = one_unplayed (jump_if_zero p) (λ c rest. jump_unplayed p c rest)
  act_unplayed I.Turn other = unit_unplayed next m (λ left. tt)
  act_unplayed (I.Call g) other = some_any Unplayed (slice_get code.functions g) (λ called. call called m) tt call_unplayed
  act_unplayed I.Return other = return_unplayed m.top.function.value
  act_unplayed I.EndTry other = end_try_unplayed m.top.handlers
  act_unplayed I.Raise other = one_unplayed (λ c. raise (exception_of c)) (λ c rest. raise_unplayed (exception_of c) (with_operands m rest))
  act_unplayed I.At other = one_unplayed _ (λ t rest. tt)
  act_unplayed I.Delay other = one_unplayed _ (λ d rest. tt)
  act_unplayed (I.Out channel address) other = one_unplayed (output channel address) (λ v rest. output_unplayed channel address v rest)
  act_unplayed (I.OutTo channel) other = two_unplayed (λ address. output channel (low_bits 8 address)) (λ address v rest. output_unplayed channel (low_bits 8 address) v rest)
  act_unplayed I.Counter other = number_unplayed Q.Counter m refl
  act_unplayed I.Reset other = number_unplayed Q.Reset m refl
  act_unplayed I.Wait other = one_unplayed (λ t. ask_only (Q.Wait t)) (λ t rest. only_unplayed (Q.Wait t) (with_operands m rest) refl)
  act_unplayed (I.Edge channel) other = one_unplayed (λ up_to. ask_number (Q.Edge channel up_to)) (λ up_to rest. number_unplayed (Q.Edge channel up_to) (with_operands m rest) refl)
  act_unplayed (I.Record n) other = named_unplayed n (λ name. open_recording m.recording name m) (λ name. open_unplayed m.recording name)
  act_unplayed I.Save other = save_unplayed m.recording
  act_unplayed (I.Handle n) other = named_unplayed n (λ name. ask_number (Q.Handle name) m) (λ name. number_unplayed (Q.Handle name) m refl)
  act_unplayed (I.Erase n) other = named_unplayed n (λ name. ask_only (Q.Erase name) m) (λ name. only_unplayed (Q.Erase name) m refl)
  act_unplayed (I.DataInt n) other =
      named_unplayed
      n
      (λ name. on_one m (λ v. ask_only (Q.Data name (W.Int v))))
      (λ name. one_unplayed (λ v. ask_only (Q.Data name (W.Int v))) (λ v rest. only_unplayed (Q.Data name (W.Int v)) (with_operands m rest) refl))
  act_unplayed (I.DataList n s count) other =
      named_unplayed
      n
      (λ name. on_some (array_at m.top.slots s count) (λ items. ask_only (Q.Data name (W.List items)) m))
      (λ name. some_any Unplayed (array_at m.top.slots s count) (λ items. ask_only (Q.Data name (W.List items)) m) tt (λ items. only_unplayed (Q.Data name (W.List items)) m refl))
  act_unplayed (I.Fill s n) other =
      one_unplayed
      (λ v m'. on_some (array_at m'.top.slots s n) (λ old. next (with_slots m' (with_array m'.top.slots s (replicate n v)))))
      (λ v rest. some_any Unplayed (array_at m.top.slots s n) (λ old. next (with_slots (with_operands m rest) (with_array m.top.slots s (replicate n v)))) tt (λ old. tt))
  act_unplayed (I.Const v) other = tt
  act_unplayed (I.Jump p) other = tt
  act_unplayed (I.Try p) other = tt
  act_unplayed I.Now other = tt
