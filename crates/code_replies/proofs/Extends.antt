-- What each instruction does under more replies: the same, or it goes on where a reply was lacking.
use Rattle.std.proofs.Common.{◌≡◌, ℕ, suc, zero, ◌+◌, ◌⊎◌, inl, inr, List, [], ◌∷◌, ◌++◌, length, Bool, true, false, Option, Some, None, refl, sym, subst, append-nil}
use Rattle.std.specs.Prelude.{ℤ, neg_ℤ, ◌+ℤ◌, ◌-ℤ◌, ◌*ℤ◌, pos, int_lt, int_le, not, slice_get, slice_set, nat_lt, nat_le, replicate, if◌then◌else◌}
use Rattle.std.specs.Int.{w32, w64, int_wrap, int_max, int_shr, int_bit_and, int_bit_or, int_bit_xor}
use Rattle.std.specs.Ordering.{int_eq}
use Rattle.rtio_types.specs.declared.event.Event.{Event}
use Rattle.rtio_types.specs.declared.outcome.Exc.{Exc}
use Rattle.rtio_types.specs.declared.outcome.Exc.TheVariants.{ZeroDivisionError, IndexError, StackOverflow}
use Rattle.rtio_types.specs.declared.request.Request.{Request}
use Rattle.rtio_types.specs.declared.request.Request.TheVariants as Q
use Rattle.rtio_types.specs.declared.request.Reply.{Reply}
use Rattle.rtio_types.specs.declared.request.Reply.TheVariants as R
use Rattle.rtio_types.specs.declared.request.Value.TheVariants as W
use Rattle.rtio_types.specs.Integers.{number_of, is_true, floor_quotient, floor_remainder, nonzero, shift_distance, shift_factor, low_bits}
use Rattle.rtio_types.specs.Replies.{raised_by, number_in}
use Rattle.rtio_types.specs.Time.{later, shifted}
use Rattle.core_isa.specs.declared.code.Code.{Code}
use Rattle.core_isa.specs.declared.code.CodeFunction.{CodeFunction}
use Rattle.core_isa.specs.declared.instr.Instr.{Instr}
use Rattle.core_isa.specs.declared.instr.Instr.TheVariants as I
use Rattle.core_isa.specs.Machine.{HandlerPoint, Frame, OpenRecording, Machine, Next, goes, ends, stuck, unanswered, raised, with_top, with_operands, with_slots, at_frame, at_place, next, push, drop_if, opened_by, opened_since, code_of, cut_to, raise_at, raise_in, raise, exception_of, raise_or, answered, unit_of, unit_then, ask_then, request_then}
use Rattle.core_isa.specs.Steps.{on_first, on_one, on_two, on_some, push_or_raise, wraps, tests, divides, array_at, with_array, index_in, store_slot, index_or_raise, load_at, store_at, event_at, submit_or_collect, output, ask_number, ask_only, play_events, play_reply, play, open_recording, save_request, save_recording, enter_if, call_if, call, leave, return_from, end_try, jump_if_zero, act}
use Rattle.code_replies.proofs.Kept.{BeginsWith, Keeps, StaysKept, raise_keeps, events_keeps}

module _ (rest : List Reply) where
  -- the machine with more replies left
  abbrev pub more : Machine → Machine
  more m = record m { replies = m.replies ++ rest }

  -- what a step under fewer replies and one under more lead to: the same, or else the first lacks a reply and the second keeps its requests
  abbrev pub Extends : Next → Next → Type 0
  Extends (goes m) b = b ≡ goes (more m)
  Extends (ends outcome m) b = (b ≡ ends outcome (more m)) ⊎ ((outcome ≡ unanswered) × StaysKept m.asked b)
  Extends stuck b = Unit {0}

  -- operands
  first_both : (operands : List ℤ) (go : ℤ → Machine → Next) (m : Machine) → ((a : ℤ) (m' : Machine) → Extends (go a m') (go a (more m'))) → Extends (on_first operands go m) (on_first operands go (more m))
  first_both [] go m on = tt
  first_both (a ∷ os) go m on = on a (with_operands m os)

  one_both : (m : Machine) (go : ℤ → Machine → Next) → ((a : ℤ) (m' : Machine) → Extends (go a m') (go a (more m'))) → Extends (on_one m go) (on_one (more m) go)
  one_both m go on = first_both m.top.operands go m on

  two_both : (m : Machine) (go : ℤ → ℤ → Machine → Next) → ((a b : ℤ) (m' : Machine) → Extends (go a b m') (go a b (more m'))) → Extends (on_two m go) (on_two (more m) go)
  two_both m go on = one_both m (λ b m'. on_one m' (λ a. go a b)) (λ b m'. one_both m' (λ a. go a b) (λ a m''. on a b m''))

  some_both : {A : Type 0} (o : Option A) (go go' : A → Next) → ((a : A) → Extends (go a) (go' a)) → Extends (on_some o go) (on_some o go')
  some_both None go go' on = tt
  some_both (Some a) go go' on = on a

  -- raising
  drop_same : (b : Bool) (m : Machine) → drop_if b (more m) ≡ more (drop_if b m)
  drop_same true m = refl
  drop_same false m = refl

  raise_at_both : (x : Exc) (handlers : List HandlerPoint) (m : Machine) (a b : Next) → Extends a b → Extends (raise_at x handlers m a) (raise_at x handlers (more m) b)
  raise_at_both x [] m a b e = e
  raise_at_both x (handler ∷ others) m a b e = by_test (opened_since handler m)
    where
      top : Frame
      top = record m.top { place = handler.place; operands = code_of x ∷ cut_to handler.height m.top.operands; handlers = others }

      by_test : (t : Bool) → goes (with_top (drop_if t (more m)) top) ≡ goes (more (with_top (drop_if t m) top))
      by_test true = refl
      by_test false = refl

  raise_in_both : (x : Exc) (callers : List Frame) (frame : Frame) (m : Machine) → Extends (raise_in x frame callers m) (raise_in x frame callers (more m))
  raise_in_both x [] frame m =
      raise_at_both
      x
      frame.handlers
      (at_frame frame [] m)
      (ends (raised x) (drop_if (opened_by 0 m.recording) (at_frame frame [] m)))
      (ends (raised x) (drop_if (opened_by 0 m.recording) (at_frame frame [] (more m))))
      (inl (by_test (opened_by 0 m.recording)))
    where
      by_test : (t : Bool) → ends (raised x) (drop_if t (at_frame frame [] (more m))) ≡ ends (raised x) (more (drop_if t (at_frame frame [] m)))
      by_test true = refl
      by_test false = refl
  raise_in_both x (caller ∷ callers) frame m =
      let b = opened_by (suc (length callers)) m.recording in
      raise_at_both
      x
      frame.handlers
      (at_frame frame (caller ∷ callers) m)
      (raise_in x caller callers (drop_if b m))
      (raise_in x caller callers (drop_if b (more m)))
      (subst (λ m'. Extends (raise_in x caller callers (drop_if b m)) (raise_in x caller callers m')) (sym (drop_same b m)) (raise_in_both x callers caller (drop_if b m)))

  raise_both : (x : Exc) (m : Machine) → Extends (raise x m) (raise x (more m))
  raise_both x m = raise_in_both x m.callers m.top m

  -- units
  unit_both : (go : Machine → Next) (m : Machine) → ((m' : Machine) → Extends (go m') (go (more m'))) → Extends (unit_then go m) (unit_then go (more m))
  unit_both go m on = by_units m.units
    where
      by_units : (n : ℕ) → Extends (unit_of n go m) (unit_of n go (more m))
      by_units zero = inl refl
      by_units (suc left) = on (record m { units = left })

  -- requests
  answered_kept : (first : List Request) (replies : List Reply) (go : Reply → Machine → Next) (m : Machine) → Keeps first m → ((reply : Reply) (m' : Machine) → Keeps first m' → StaysKept first (go reply m')) → StaysKept first (answered replies go m)
  answered_kept first [] go m k on = k
  answered_kept first (reply ∷ replies) go m k on = by_raised (raised_by reply)
    where
      by_raised : (o : Option Exc) → StaysKept first (raise_or o (go reply) (record m { replies = replies }))
      by_raised None = on reply (record m { replies = replies }) k
      by_raised (Some x) = raise_keeps first x (record m { replies = replies }) k

  ask_both : (request : Request) (go : Reply → Machine → Next) (m : Machine) → ((first : List Request) (reply : Reply) (m' : Machine) → Keeps first m' → StaysKept first (go reply m')) → ((reply : Reply) (m' : Machine) → Extends (go reply m') (go reply (more m'))) → Extends (ask_then request go m) (ask_then request go (more m))
  ask_both request go m kept on = by_replies m.replies
    where
      asked : List Request
      asked = m.asked ++ request ∷ []

      begins : BeginsWith asked asked
      begins = record { own = []; is = sym (append-nil asked) }

      by_raised : (reply : Reply) (replies : List Reply) (o : Option Exc) → Extends (raise_or o (go reply) (record m { asked = m.asked ++ request ∷ []; replies = replies })) (raise_or o (go reply) (record m { asked = m.asked ++ request ∷ []; replies = replies ++ rest }))
      by_raised reply replies None = on reply (record m { asked = m.asked ++ request ∷ []; replies = replies })
      by_raised reply replies (Some x) = raise_both x (record m { asked = m.asked ++ request ∷ []; replies = replies })

      by_replies : (replies : List Reply) → Extends (answered replies go (record m { asked = m.asked ++ request ∷ [] })) (answered (replies ++ rest) go (record (more m) { asked = m.asked ++ request ∷ [] }))
      by_replies [] = inr (refl, answered_kept asked rest go (record (more m) { asked = m.asked ++ request ∷ [] }) begins (kept asked))
      by_replies (reply ∷ replies) = by_raised reply replies (raised_by reply)

  request_both : (request : Request) (go : Reply → Machine → Next) (m : Machine) → ((first : List Request) (reply : Reply) (m' : Machine) → Keeps first m' → StaysKept first (go reply m')) → ((reply : Reply) (m' : Machine) → Extends (go reply m') (go reply (more m'))) → Extends (request_then request go m) (request_then request go (more m))
  request_both request go m kept on = unit_both (ask_then request go) m (λ m'. ask_both request go m' kept on)

  number_both : (request : Request) (m : Machine) → Extends (ask_number request m) (ask_number request (more m))
  number_both request m = request_both request (λ reply. push (number_in reply)) m (λ first reply m' k. k) (λ reply m'. refl)

  only_both : (request : Request) (m : Machine) → Extends (ask_only request m) (ask_only request (more m))
  only_both request m = request_both request (λ reply. next) m (λ first reply m' k. k) (λ reply m'. refl)

  -- playbacks
  events_both : (events : List Event) (length' : ℤ) (m : Machine) → Extends (play_events events length' m) (play_events events length' (more m))
  events_both [] length' m = refl
  events_both (event ∷ events) length' m =
      request_both (Q.Out (shifted event m.cursor)) (λ reply. play_events events length') m (λ first reply m' k. events_keeps first events length' m' k) (λ reply m'. events_both events length' m')

  reply_kept : (first : List Request) (reply : Reply) (m : Machine) → Keeps first m → StaysKept first (play_reply reply m)
  reply_kept first (R.Trace recording) m k = events_keeps first recording.events recording.length m k
  reply_kept first reply m k = k

  reply_both : (reply : Reply) (m : Machine) → Extends (play_reply reply m) (play_reply reply (more m))
  reply_both (R.Trace recording) m = events_both recording.events recording.length m
  reply_both reply m = refl

  play_both : (request : Request) (m : Machine) → Extends (play request m) (play request (more m))
  play_both request m = request_both request play_reply m reply_kept reply_both

  -- parts of the instructions
  pushes_both : (f : ℤ → ℤ) (m : Machine) → Extends (on_one m (λ a. push (f a))) (on_one (more m) (λ a. push (f a)))
  pushes_both f m = one_both m (λ a. push (f a)) (λ a m'. refl)

  wraps_both : (f : ℤ → ℤ → ℤ) (m : Machine) → Extends (wraps f m) (wraps f (more m))
  wraps_both f m = two_both m (λ a b. push (int_wrap w64 (f a b))) (λ a b m'. refl)

  tests_both : (f : ℤ → ℤ → Bool) (m : Machine) → Extends (tests f m) (tests f (more m))
  tests_both f m = two_both m (λ a b. push (number_of (f a b))) (λ a b m'. refl)

  result_both : (x : Exc) (o : Option ℤ) (m : Machine) → Extends (push_or_raise x o m) (push_or_raise x o (more m))
  result_both x None m = raise_both x m
  result_both x (Some v) m = refl

  divides_both : (f : ℤ → ℤ → ℤ) (m : Machine) → Extends (divides f m) (divides f (more m))
  divides_both f m =
      two_both m (λ a b. push_or_raise ZeroDivisionError (nonzero b (int_wrap w64 (f a b)))) (λ a b m'. result_both ZeroDivisionError (nonzero b (int_wrap w64 (f a b))) m')

  store_both : (s : ℕ) (v : ℤ) (m : Machine) → Extends (store_slot s v m) (store_slot s v (more m))
  store_both s v m =
      some_both
      (slice_get m.top.slots s)
      (λ old. next (with_slots m (slice_set m.top.slots s v)))
      (λ old. next (with_slots (more m) (slice_set m.top.slots s v)))
      (λ old. refl)

  index_both : (o : Option ℕ) (go go' : ℕ → Next) (m : Machine) → ((k : ℕ) → Extends (go k) (go' k)) → Extends (index_or_raise o go m) (index_or_raise o go' (more m))
  index_both None go go' m on = raise_both IndexError m
  index_both (Some k) go go' m on = on k

  load_both : (s n : ℕ) (i : ℤ) (m : Machine) → Extends (load_at s n i m) (load_at s n i (more m))
  load_both s n i m =
      index_both
      (index_in n i)
      (λ k. on_some (slice_get m.top.slots (s + k)) (λ v. push v m))
      (λ k. on_some (slice_get m.top.slots (s + k)) (λ v. push v (more m)))
      m
      (λ k. some_both (slice_get m.top.slots (s + k)) (λ v. push v m) (λ v. push v (more m)) (λ v. refl))

  store_at_both : (s n : ℕ) (v i : ℤ) (m : Machine) → Extends (store_at s n v i m) (store_at s n v i (more m))
  store_at_both s n v i m = index_both (index_in n i) (λ k. store_slot (s + k) v m) (λ k. store_slot (s + k) v (more m)) m (λ k. store_both (s + k) v m)

  submit_both : (o : Option OpenRecording) (event : Event) (m : Machine) → Extends (submit_or_collect o event m) (submit_or_collect o event (more m))
  submit_both None event m = ask_both (Q.Out event) (λ reply. next) m (λ first reply m' k. k) (λ reply m'. refl)
  submit_both (Some open_one) event m = refl

  output_both : (channel address : ℕ) (v : ℤ) (m : Machine) → Extends (output channel address v m) (output channel address v (more m))
  output_both channel address v m =
      unit_both (submit_or_collect m.recording (event_at m.cursor channel address v)) m (λ m'. submit_both m.recording (event_at m.cursor channel address v) m')

  open_both : (o : Option OpenRecording) (name : List ℕ) (m : Machine) → Extends (open_recording o name m) (open_recording o name (more m))
  open_both (Some open_one) name m = tt
  open_both None name m = refl

  save_both : (o : Option OpenRecording) (m : Machine) → Extends (save_recording o m) (save_recording o (more m))
  save_both None m = tt
  save_both (Some open_one) m =
      unit_both
      (λ m'. ask_then (save_request open_one m.cursor) (λ reply. next) (record m' { cursor = open_one.saved; recording = None }))
      m
      (λ m'. ask_both (save_request open_one m.cursor) (λ reply. next) (record m' { cursor = open_one.saved; recording = None }) (λ first reply m'' k. k) (λ reply m''. refl))

  enter_both : (b : Bool) (f : CodeFunction) (m : Machine) → Extends (enter_if b f m) (enter_if b f (more m))
  enter_both false f m = tt
  enter_both true f m = refl

  call_if_both : (room : Bool) (f : CodeFunction) (m : Machine) → Extends (call_if room f m) (call_if room f (more m))
  call_if_both false f m = raise_both StackOverflow m
  call_if_both true f m = enter_both (nat_le f.params (length m.top.operands)) f m

  call_both : (f : CodeFunction) (m : Machine) → Extends (call f m) (call f (more m))
  call_both f m = unit_both (λ m'. call_if (nat_lt (length m'.callers + 1) 64) f m') m (λ m'. call_if_both (nat_lt (length m'.callers + 1) 64) f m')

  leave_both : (callers : List Frame) (go : Machine → Next) (m : Machine) → ((m' : Machine) → Extends (go m') (go (more m'))) → Extends (leave callers go m) (leave callers go (more m))
  leave_both [] go m on = inl refl
  leave_both (caller ∷ callers) go m on = on (record m { top = caller; callers = callers })

  return_both : (b : Bool) (m : Machine) → Extends (return_from b m) (return_from b (more m))
  return_both false m = leave_both m.callers next m (λ m'. refl)
  return_both true m = one_both m (λ v m'. leave m'.callers (push v) m') (λ v m'. leave_both m'.callers (push v) m' (λ m''. refl))

  end_try_both : (handlers : List HandlerPoint) (m : Machine) → Extends (end_try handlers m) (end_try handlers (more m))
  end_try_both [] m = tt
  end_try_both (handler ∷ others) m = refl

  jump_both : (p : ℕ) (c : ℤ) (m : Machine) → Extends (jump_if_zero p c m) (jump_if_zero p c (more m))
  jump_both p c m = by_test (is_true c)
    where
      by_test : (b : Bool) → Extends (if b then next m else goes (at_place m p)) (if b then next (more m) else goes (at_place (more m) p))
      by_test true = refl
      by_test false = refl

  -- each instruction
  pub act_both : (code : Code) (i : Instr) (m : Machine) → Extends (act code i m) (act code i (more m))
  act_both code (I.Const v) m = refl
  act_both code (I.Load s) m = some_both (slice_get m.top.slots s) (λ v. push v m) (λ v. push v (more m)) (λ v. refl)
  act_both code (I.Store s) m = one_both m (λ v. store_slot s v) (λ v m'. store_both s v m')
  act_both code (I.LoadAt s n) m = one_both m (load_at s n) (λ i m'. load_both s n i m')
  act_both code (I.StoreAt s n) m = two_both m (store_at s n) (λ v i m'. store_at_both s n v i m')
  act_both code I.Add m = wraps_both ◌+ℤ◌ m
  act_both code I.Sub m = wraps_both ◌-ℤ◌ m
  act_both code I.Mul m = wraps_both ◌*ℤ◌ m
  act_both code I.Div m = divides_both floor_quotient m
  act_both code I.Mod m = divides_both floor_remainder m
  act_both code I.And m = wraps_both (int_bit_and w64) m
  act_both code I.Or m = wraps_both (int_bit_or w64) m
  act_both code I.Xor m = wraps_both (int_bit_xor w64) m
  act_both code (I.Shl w) m = wraps_both (λ a n. a *ℤ pos (shift_factor w n)) m
  act_both code (I.Shr w) m = wraps_both (λ a n. int_shr a (shift_distance w n)) m
  act_both code I.Neg m = pushes_both (λ a. int_wrap w64 (neg_ℤ a)) m
  act_both code I.Inv m = pushes_both (λ a. int_wrap w64 (neg_ℤ a -ℤ pos 1)) m
  act_both code I.Wrap32 m = pushes_both (λ a. int_wrap w32 a) m
  act_both code I.Eq m = tests_both int_eq m
  act_both code I.Ne m = tests_both (λ a b. not (int_eq a b)) m
  act_both code I.Lt m = tests_both int_lt m
  act_both code I.Le m = tests_both int_le m
  act_both code I.Max m = two_both m (λ a b. push (int_max a b)) (λ a b m'. refl)
  act_both code I.Pop m = one_both m (λ a. next) (λ a m'. refl)
  act_both code I.Dup m = one_both m (λ a m'. next (with_operands m' (a ∷ a ∷ m'.top.operands))) (λ a m'. refl)
  act_both code (I.Jump p) m = refl
  act_both code (I.JumpZero p) m = one_both m (jump_if_zero p) (λ c m'. jump_both p c m')
  act_both code I.Turn m = unit_both next m (λ m'. refl)
  act_both code (I.Call f) m = some_both (slice_get code.functions f) (λ called. call called m) (λ called. call called (more m)) (λ called. call_both called m)
  act_both code I.Return m = return_both m.top.function.value m
  act_both code (I.Try p) m = refl
  act_both code I.EndTry m = end_try_both m.top.handlers m
  act_both code I.Raise m = one_both m (λ c. raise (exception_of c)) (λ c m'. raise_both (exception_of c) m')
  act_both code I.Now m = refl
  act_both code I.At m = one_both m (λ t m'. next (record m' { cursor = t })) (λ t m'. refl)
  act_both code I.Delay m = one_both m (λ d m'. next (record m' { cursor = later m'.cursor d })) (λ d m'. refl)
  act_both code (I.Out channel address) m = one_both m (output channel address) (λ v m'. output_both channel address v m')
  act_both code (I.OutTo channel) m = two_both m (λ address. output channel (low_bits 8 address)) (λ address v m'. output_both channel (low_bits 8 address) v m')
  act_both code I.Counter m = number_both Q.Counter m
  act_both code I.Reset m = number_both Q.Reset m
  act_both code I.Wait m = one_both m (λ t. ask_only (Q.Wait t)) (λ t m'. only_both (Q.Wait t) m')
  act_both code (I.Edge channel) m = one_both m (λ up_to. ask_number (Q.Edge channel up_to)) (λ up_to m'. number_both (Q.Edge channel up_to) m')
  act_both code (I.Record n) m = some_both (slice_get code.names n) (λ name. open_recording m.recording name m) (λ name. open_recording m.recording name (more m)) (λ name. open_both m.recording name m)
  act_both code I.Save m = save_both m.recording m
  act_both code (I.Play n) m = some_both (slice_get code.names n) (λ name. play (Q.Fetch name) m) (λ name. play (Q.Fetch name) (more m)) (λ name. play_both (Q.Fetch name) m)
  act_both code I.PlayHandle m = one_both m (λ h. play (Q.FetchHandle h)) (λ h m'. play_both (Q.FetchHandle h) m')
  act_both code (I.Handle n) m = some_both (slice_get code.names n) (λ name. ask_number (Q.Handle name) m) (λ name. ask_number (Q.Handle name) (more m)) (λ name. number_both (Q.Handle name) m)
  act_both code (I.Erase n) m = some_both (slice_get code.names n) (λ name. ask_only (Q.Erase name) m) (λ name. ask_only (Q.Erase name) (more m)) (λ name. only_both (Q.Erase name) m)
  act_both code (I.DataInt n) m =
      some_both
      (slice_get code.names n)
      (λ name. on_one m (λ v. ask_only (Q.Data name (W.Int v))))
      (λ name. on_one (more m) (λ v. ask_only (Q.Data name (W.Int v))))
      (λ name. one_both m (λ v. ask_only (Q.Data name (W.Int v))) (λ v m'. only_both (Q.Data name (W.Int v)) m'))
  act_both code (I.DataList n s count) m =
      some_both
      (slice_get code.names n)
      (λ name. on_some (array_at m.top.slots s count) (λ items. ask_only (Q.Data name (W.List items)) m))
      (λ name. on_some (array_at m.top.slots s count) (λ items. ask_only (Q.Data name (W.List items)) (more m)))
      (λ name. some_both (array_at m.top.slots s count) (λ items. ask_only (Q.Data name (W.List items)) m) (λ items. ask_only (Q.Data name (W.List items)) (more m)) (λ items. only_both (Q.Data name (W.List items)) m))
  act_both code (I.Fill s n) m =
      one_both
      m
      (λ v m'. on_some (array_at m'.top.slots s n) (λ old. next (with_slots m' (with_array m'.top.slots s (replicate n v)))))
      (λ v m'.
      some_both
      (array_at m'.top.slots s n)
      (λ old. next (with_slots m' (with_array m'.top.slots s (replicate n v))))
      (λ old. next (with_slots (more m') (with_array m'.top.slots s (replicate n v))))
      (λ old. refl))
