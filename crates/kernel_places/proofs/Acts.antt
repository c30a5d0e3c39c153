-- What an instruction leaves as it is.
use Rattle.std.proofs.Common.{ℕ, ◌+◌, List, [], ◌∷◌, length, Bool, true, false, Option, Some, None, refl, arith}
use Rattle.std.specs.Prelude.{ℤ, slice_get, nat_lt, nat_le, slice_set, replicate, if◌then◌else◌}
use Rattle.rtio_types.specs.declared.event.Event.{Event}
use Rattle.rtio_types.specs.declared.outcome.Exc.{Exc}
use Rattle.rtio_types.specs.declared.outcome.Exc.TheVariants.{ZeroDivisionError, IndexError, StackOverflow}
use Rattle.rtio_types.specs.declared.request.Request.TheVariants as Q
use Rattle.rtio_types.specs.declared.request.Value.TheVariants as W
use Rattle.rtio_types.specs.Integers.{is_true, low_bits}
use Rattle.core_isa.specs.declared.code.Code.{Code}
use Rattle.core_isa.specs.declared.code.CodeFunction.{CodeFunction}
use Rattle.core_isa.specs.declared.code.CodeLine.{CodeLine}
use Rattle.core_isa.specs.declared.instr.Instr.{Instr}
use Rattle.core_isa.specs.declared.instr.Instr.TheVariants as I
use Rattle.core_isa.specs.Machine.{HandlerPoint, Frame, OpenRecording, Machine, Next, goes, with_operands, with_slots, at_place, next, push, raise, exception_of, ask_then}
use Rattle.core_isa.specs.Runs.{counted, step_by, step}
use Rattle.core_isa.specs.Steps.{on_one, on_two, on_some, push_or_raise, array_at, with_array, index_in, store_slot, index_or_raise, load_at, store_at, submit_or_collect, event_at, output, ask_number, ask_only, play, open_recording, save_request, save_recording, enter_if, call_if, call, leave, return_from, end_try, jump_if_zero, named, act}
use Rattle.core_isa.proofs.Lighter.{first_any, two_any, some_any}
use Rattle.kernel_places.proofs.Leaving.{Counts, Keeps, Leaves, raise_leaves, unit_leaves, ask_leaves, number_leaves, only_leaves, play_leaves}

module _ (old : Machine) (code : Code) (m : Machine) (so : Keeps old m) where
  abbrev Stays : Next → Type 0
  Stays = Leaves old

  abbrev counts : Counts old m
  counts = (so.2, so.3)

  -- operands are taken, and the rest asks nothing
  one_stays : (go : ℤ → Machine → Next) → ((a : ℤ) (rest : List ℤ) → Stays (go a (with_operands m rest))) → Stays (on_one m go)
  one_stays go on = first_any Stays m.top.operands go m tt on

  two_stays : (go : ℤ → ℤ → Machine → Next) → ((a b : ℤ) (rest : List ℤ) → Stays (go a b (with_operands m rest))) → Stays (on_two m go)
  two_stays go on = two_any Stays go m tt on

  raises : (x : Exc) (rest : List ℤ) → Stays (raise x (with_operands m rest))
  raises x rest = raise_leaves old x (with_operands m rest) counts

  result_stays : (x : Exc) (o : Option ℤ) (rest : List ℤ) → Stays (push_or_raise x o (with_operands m rest))
  result_stays x None rest = raises x rest
  result_stays x (Some v) rest = counts

  store_stays : (s : ℕ) (v : ℤ) (rest : List ℤ) → Stays (store_slot s v (with_operands m rest))
  store_stays s v rest =
      some_any
      Stays
      (slice_get m.top.slots s)
      (λ old_one. next (with_slots (with_operands m rest) (slice_set m.top.slots s v)))
      tt
      (λ old_one. counts)

  index_stays : (o : Option ℕ) (go : ℕ → Next) (rest : List ℤ) → ((k : ℕ) → Stays (go k)) → Stays (index_or_raise o go (with_operands m rest))
  index_stays None go rest on = raises IndexError rest
  index_stays (Some k) go rest on = on k

  named_stays : (n : ℕ) (go : List ℕ → Next) → ((name : List ℕ) → Stays (go name)) → Stays (named code n go)
  named_stays n go on = some_any Stays (slice_get code.names n) go tt on

  -- an output
  output_stays : (channel address : ℕ) (v : ℤ) (rest : List ℤ) → Stays (output channel address v (with_operands m rest))
  output_stays channel address v rest =
      unit_leaves old (submit_or_collect m.recording event) (with_operands m rest) so.2 (λ left. by_recording left m.recording)
    where
      event : Event
      event = event_at m.cursor channel address v

      by_recording : (left : ℕ) (recording : Option OpenRecording) → Stays (submit_or_collect recording event (record (with_operands m rest) { units = left }))
      by_recording left None =
          ask_leaves old (Q.Out event) (λ reply. next) (record (with_operands m rest) { units = left }) so (λ reply replies few. (so.2, few))
      by_recording left (Some open_one) = counts

  save_stays : (recording : Option OpenRecording) → Stays (save_recording recording m)
  save_stays None = tt
  save_stays (Some open_one) =
      unit_leaves
      old
      (λ m'.
      ask_then
      (save_request open_one m.cursor)
      (λ reply. next)
      (record m' { cursor = open_one.saved; recording = None }))
      m
      so.2
      (λ left.
      ask_leaves
      old
      (save_request open_one m.cursor)
      (λ reply. next)
      (record m { units = left; cursor = open_one.saved; recording = None })
      so
      (λ reply replies few. (so.2, few)))

  open_stays : (recording : Option OpenRecording) (name : List ℕ) → Stays (open_recording recording name m)
  open_stays (Some open_one) name = tt
  open_stays None name = counts

  call_stays : (called : CodeFunction) → Stays (call called m)
  call_stays called =
      unit_leaves
      old
      (λ m'. call_if (nat_lt (length m'.callers + 1) 64) called m')
      m
      so.2
      (λ left. by_room left (nat_lt (length m.callers + 1) 64))
    where
      by_arguments : (left : ℕ) (b : Bool) → Stays (enter_if b called (record m { units = left }))
      by_arguments left true = counts
      by_arguments left false = tt

      by_room : (left : ℕ) (room : Bool) → Stays (call_if room called (record m { units = left }))
      by_room left false = raise_leaves old StackOverflow (record m { units = left }) counts
      by_room left true = by_arguments left (nat_le called.params (length m.top.operands))

  leave_stays : (callers : List Frame) (go : Machine → Next) (rest : List ℤ) → ((caller : Frame) (others : List Frame) → Stays (go (record m { top = caller; callers = others }))) → Stays (leave callers go (with_operands m rest))
  leave_stays [] go rest on = so.2
  leave_stays (caller ∷ callers) go rest on = on caller callers

  return_stays : (b : Bool) → Stays (return_from b m)
  return_stays false = leave_stays m.callers next m.top.operands (λ caller others. counts)
  return_stays true =
      one_stays (λ v m'. leave m'.callers (push v) m') (λ v rest. leave_stays m.callers (push v) rest (λ caller others. counts))

  end_try_stays : (handlers : List HandlerPoint) → Stays (end_try handlers m)
  end_try_stays [] = tt
  end_try_stays (handler ∷ rest) = counts

  jump_stays : (p : ℕ) (c : ℤ) (rest : List ℤ) → Stays (jump_if_zero p c (with_operands m rest))
  jump_stays p c rest = by_test (is_true c)
    where
      by_test : (b : Bool) → Stays (if b then next (with_operands m rest) else goes (at_place (with_operands m rest) p))
      by_test true = counts
      by_test false = counts

  -- each instruction
  pub act_leaves : (i : Instr) → Leaves old (act code i m)
  act_leaves (I.Load s) = some_any Stays (slice_get m.top.slots s) (λ v. push v m) tt (λ v. counts)
  act_leaves (I.Store s) = one_stays (λ v. store_slot s v) (λ v rest. store_stays s v rest)
  act_leaves (I.LoadAt s n) =
      one_stays
      (load_at s n)
      (λ i rest.
      index_stays
      (index_in n i)
      (λ k. on_some (slice_get m.top.slots (s + k)) (λ v. push v (with_operands m rest)))
      rest
      (λ k. some_any Stays (slice_get m.top.slots (s + k)) (λ v. push v (with_operands m rest)) tt (λ v. counts)))
  act_leaves (I.StoreAt s n) =
      two_stays
      (store_at s n)
      (λ v i rest. index_stays (index_in n i) (λ k. store_slot (s + k) v (with_operands m rest)) rest (λ k. store_stays (s + k) v rest))
  act_leaves I.Div = two_stays _ (λ a b rest. result_stays ZeroDivisionError _ rest)
  act_leaves I.Mod = two_stays _ (λ a b rest. result_stays ZeroDivisionError _ rest)
  act_leaves I.Add = two_stays _ (λ a b rest. counts)
  act_leaves I.Sub = two_stays _ (λ a b rest. counts)
  act_leaves I.Mul = two_stays _ (λ a b rest. counts)
  act_leaves I.And = two_stays _ (λ a b rest. counts)
  act_leaves I.Or = two_stays _ (λ a b rest. counts)
  act_leaves I.Xor = two_stays _ (λ a b rest. counts)
  act_leaves (I.Shl w) = two_stays _ (λ a b rest. counts)
  act_leaves (I.Shr w) = two_stays _ (λ a b rest. counts)
  act_leaves I.Neg = one_stays _ (λ a rest. counts)
  act_leaves I.Inv = one_stays _ (λ a rest. counts)
  act_leaves I.Wrap32 = one_stays _ (λ a rest. counts)
  act_leaves I.Eq = two_stays _ (λ a b rest. counts)
  act_leaves I.Ne = two_stays _ (λ a b rest. counts)
  act_leaves I.Lt = two_stays _ (λ a b rest. counts)
  act_leaves I.Le = two_stays _ (λ a b rest. counts)
  act_leaves I.Max = two_stays _ (λ a b rest. counts)
  act_leaves I.Pop = one_stays _ (λ a rest. counts)
  act_leaves I.Dup = one_stays _ (λ a rest. counts)
  act_leaves (I.JumpZero p) = one_stays (jump_if_zero p) (λ c rest. jump_stays p c rest)
  act_leaves I.Turn = unit_leaves old next m so.2 (λ left. counts)
  act_leaves (I.Call g) = some_any Stays (slice_get code.functions g) (λ called. call called m) tt call_stays
  act_leaves I.Return = return_stays m.top.function.value
  act_leaves I.EndTry = end_try_stays m.top.handlers
  act_leaves I.Raise = one_stays (λ c. raise (exception_of c)) (λ c rest. raises (exception_of c) rest)
  act_leaves I.At = one_stays _ (λ t rest. counts)
  act_leaves I.Delay = one_stays _ (λ d rest. counts)
  act_leaves (I.Out channel address) = one_stays (output channel address) (λ v rest. output_stays channel address v rest)
  act_leaves (I.OutTo channel) =
      two_stays (λ address. output channel (low_bits 8 address)) (λ address v rest. output_stays channel (low_bits 8 address) v rest)
  act_leaves I.Counter = number_leaves old Q.Counter m so
  act_leaves I.Reset = number_leaves old Q.Reset m so
  act_leaves I.Wait = one_stays (λ t. ask_only (Q.Wait t)) (λ t rest. only_leaves old (Q.Wait t) (with_operands m rest) so)
  act_leaves (I.Edge channel) =
      one_stays (λ up_to. ask_number (Q.Edge channel up_to)) (λ up_to rest. number_leaves old (Q.Edge channel up_to) (with_operands m rest) so)
  act_leaves (I.Record n) =
      named_stays n (λ name. open_recording m.recording name m) (λ name. open_stays m.recording name)
  act_leaves I.Save = save_stays m.recording
  act_leaves (I.Play n) = named_stays n (λ name. play (Q.Fetch name) m) (λ name. play_leaves old (Q.Fetch name) m so)
  act_leaves I.PlayHandle = one_stays (λ h. play (Q.FetchHandle h)) (λ h rest. play_leaves old (Q.FetchHandle h) (with_operands m rest) so)
  act_leaves (I.Handle n) =
      named_stays n (λ name. ask_number (Q.Handle name) m) (λ name. number_leaves old (Q.Handle name) m so)
  act_leaves (I.Erase n) = named_stays n (λ name. ask_only (Q.Erase name) m) (λ name. only_leaves old (Q.Erase name) m so)
  act_leaves (I.DataInt n) =
      named_stays
      n
      (λ name. on_one m (λ v. ask_only (Q.Data name (W.Int v))))
      (λ name.
      one_stays
      (λ v. ask_only (Q.Data name (W.Int v)))
      (λ v rest. only_leaves old (Q.Data name (W.Int v)) (with_operands m rest) so))
  act_leaves (I.DataList n s count) =
      named_stays
      n
      (λ name. on_some (array_at m.top.slots s count) (λ items. ask_only (Q.Data name (W.List items)) m))
      (λ name.
      some_any
      Stays
      (array_at m.top.slots s count)
      (λ items. ask_only (Q.Data name (W.List items)) m)
      tt
      (λ items. only_leaves old (Q.Data name (W.List items)) m so))
  act_leaves (I.Fill s n) =
      one_stays
      (λ v m'. on_some (array_at m'.top.slots s n) (λ there. next (with_slots m' (with_array m'.top.slots s (replicate n v)))))
      (λ v rest.
      some_any
      Stays
      (array_at m.top.slots s n)
      (λ there. next (with_slots (with_operands m rest) (with_array m.top.slots s (replicate n v))))
      tt
      (λ there. counts))
  act_leaves (I.Const v) = counts
  act_leaves (I.Jump p) = counts
  act_leaves (I.Try p) = counts
  act_leaves I.Now = counts

-- a step: with the instruction counted
pub step_leaves : (code : Code) (m : Machine) → Leaves (counted m) (step code m)
step_leaves code m = by_line (slice_get code.lines m.top.place)
  where
    by_line : (o : Option CodeLine) → Leaves (counted m) (step_by code o m)
    by_line None = tt
    by_line (Some line) = act_leaves (counted m) code (counted m) (refl, refl, refl, omega arith) line.instr
