-- Each request of a run takes a reply, and a run that finds none left ends with its request.
use Rattle.std.proofs.Common.{◌≡◌, ◌≢◌, ℕ, suc, zero, ◌+◌, ◌≤◌, List, [], ◌∷◌, length, Bool, true, false, Option, Some, None, refl, sym, ap, ◌∙◌, arith}
use Rattle.std.specs.Prelude.{ℤ, slice_get, nat_lt, nat_le, slice_set, replicate, if◌then◌else◌}
use Rattle.rtio_types.specs.declared.event.Event.{Event}
use Rattle.rtio_types.specs.declared.outcome.Exc.{Exc}
use Rattle.rtio_types.specs.declared.outcome.Exc.TheVariants.{ZeroDivisionError, IndexError, StackOverflow}
use Rattle.rtio_types.specs.declared.request.Request.TheVariants as Q
use Rattle.rtio_types.specs.declared.request.Reply.{Reply}
use Rattle.rtio_types.specs.declared.request.Value.TheVariants as W
use Rattle.rtio_types.specs.Integers.{is_true, low_bits}
use Rattle.core_isa.specs.declared.code.Code.{Code}
use Rattle.core_isa.specs.declared.code.CodeFunction.{CodeFunction}
use Rattle.core_isa.specs.declared.code.CodeLine.{CodeLine}
use Rattle.core_isa.specs.declared.instr.Instr.{Instr}
use Rattle.core_isa.specs.declared.instr.Instr.TheVariants as I
use Rattle.core_isa.specs.Machine.{HandlerPoint, Frame, OpenRecording, Machine, MachineEnd, Next, goes, ends, stuck, returned, raised, budget, unanswered, with_operands, with_slots, at_place, next, push, raise, exception_of, ask_then}
use Rattle.core_isa.specs.Runs.{Ran, Runs, Gives, counted, step_by, step, go_on, steps, boot}
use Rattle.core_isa.specs.Steps.{on_one, on_two, on_some, push_or_raise, array_at, with_array, index_in, store_slot, index_or_raise, load_at, store_at, submit_or_collect, event_at, output, ask_number, ask_only, play, open_recording, save_request, save_recording, enter_if, call_if, call, leave, return_from, end_try, jump_if_zero, named, act}
use Rattle.core_isa.proofs.Lighter.{first_any, two_any, some_any}
use Rattle.kernel_session.proofs.RepliesLeft.{Together, StaysTogether, raise_together, unit_together, ask_together, number_together, only_together, play_together}

module _ (total : ℕ) (code : Code) (m : Machine) (so : Together total m) where
  abbrev Stays : Next → Type 0
  Stays = StaysTogether total

  -- operands are taken, and the rest asks nothing
  one_stays : (go : ℤ → Machine → Next) → ((a : ℤ) (rest : List ℤ) → Stays (go a (with_operands m rest))) → Stays (on_one m go)
  one_stays go on = first_any Stays m.top.operands go m tt on

  two_stays : (go : ℤ → ℤ → Machine → Next) → ((a b : ℤ) (rest : List ℤ) → Stays (go a b (with_operands m rest))) → Stays (on_two m go)
  two_stays go on = two_any Stays go m tt on

  raises : (x : Exc) (rest : List ℤ) → Stays (raise x (with_operands m rest))
  raises x rest = raise_together total x (with_operands m rest) so

  result_stays : (x : Exc) (o : Option ℤ) (rest : List ℤ) → Stays (push_or_raise x o (with_operands m rest))
  result_stays x None rest = raises x rest
  result_stays x (Some v) rest = so

  store_stays : (s : ℕ) (v : ℤ) (rest : List ℤ) → Stays (store_slot s v (with_operands m rest))
  store_stays s v rest = some_any Stays (slice_get m.top.slots s) (λ old. next (with_slots (with_operands m rest) (slice_set m.top.slots s v))) tt (λ old. so)

  index_stays : (o : Option ℕ) (go : ℕ → Next) (rest : List ℤ) → ((k : ℕ) → Stays (go k)) → Stays (index_or_raise o go (with_operands m rest))
  index_stays None go rest on = raises IndexError rest
  index_stays (Some k) go rest on = on k

  named_stays : (n : ℕ) (go : List ℕ → Next) → ((name : List ℕ) → Stays (go name)) → Stays (named code n go)
  named_stays n go on = some_any Stays (slice_get code.names n) go tt on

  -- an output
  output_stays : (channel address : ℕ) (v : ℤ) (rest : List ℤ) → Stays (output channel address v (with_operands m rest))
  output_stays channel address v rest = unit_together total (submit_or_collect m.recording event) (with_operands m rest) so (λ left. by_recording left m.recording)
    where
      event : Event
      event = event_at m.cursor channel address v

      by_recording : (left : ℕ) (recording : Option OpenRecording) → Stays (submit_or_collect recording event (record (with_operands m rest) { units = left }))
      by_recording left None = ask_together total (Q.Out event) (λ reply. next) (record (with_operands m rest) { units = left }) so (λ reply m' later. later)
      by_recording left (Some open_one) = so

  save_stays : (recording : Option OpenRecording) → Stays (save_recording recording m)
  save_stays None = tt
  save_stays (Some open_one) =
      unit_together
      total
      (λ m'. ask_then (save_request open_one m.cursor) (λ reply. next) (record m' { cursor = open_one.saved; recording = None }))
      m
      so
      (λ left. ask_together total (save_request open_one m.cursor) (λ reply. next) (record m { units = left; cursor = open_one.saved; recording = None }) so (λ reply m' later. later))

  open_stays : (recording : Option OpenRecording) (name : List ℕ) → Stays (open_recording recording name m)
  open_stays (Some open_one) name = tt
  open_stays None name = so

  call_stays : (called : CodeFunction) → Stays (call called m)
  call_stays called = unit_together total (λ m'. call_if (nat_lt (length m'.callers + 1) 64) called m') m so (λ left. by_room left (nat_lt (length m.callers + 1) 64))
    where
      by_arguments : (left : ℕ) (b : Bool) → Stays (enter_if b called (record m { units = left }))
      by_arguments left true = so
      by_arguments left false = tt

      by_room : (left : ℕ) (room : Bool) → Stays (call_if room called (record m { units = left }))
      by_room left false = raise_together total StackOverflow (record m { units = left }) so
      by_room left true = by_arguments left (nat_le called.params (length m.top.operands))

  leave_stays : (callers : List Frame) (go : Machine → Next) (rest : List ℤ) → ((caller : Frame) (others : List Frame) → Stays (go (record m { top = caller; callers = others }))) → Stays (leave callers go (with_operands m rest))
  leave_stays [] go rest on = so
  leave_stays (caller ∷ callers) go rest on = on caller callers

  return_stays : (b : Bool) → Stays (return_from b m)
  return_stays false = leave_stays m.callers next m.top.operands (λ caller others. so)
  return_stays true = one_stays (λ v m'. leave m'.callers (push v) m') (λ v rest. leave_stays m.callers (push v) rest (λ caller others. so))

  end_try_stays : (handlers : List HandlerPoint) → Stays (end_try handlers m)
  end_try_stays [] = tt
  end_try_stays (handler ∷ rest) = so

  jump_stays : (p : ℕ) (c : ℤ) (rest : List ℤ) → Stays (jump_if_zero p c (with_operands m rest))
  jump_stays p c rest = by_test (is_true c)
    where
      by_test : (b : Bool) → Stays (if b then next (with_operands m rest) else goes (at_place (with_operands m rest) p))
      by_test true = so
      by_test false = so

  -- each instruction
  pub act_together : (i : Instr) → StaysTogether total (act code i m)
  act_together (I.Load s) = some_any Stays (slice_get m.top.slots s) (λ v. push v m) tt (λ v. so)
  act_together (I.Store s) = one_stays (λ v. store_slot s v) (λ v rest. store_stays s v rest)
  act_together (I.LoadAt s n) =
      one_stays
      (load_at s n)
      (λ i rest.
      index_stays
      (index_in n i)
      (λ k. on_some (slice_get m.top.slots (s + k)) (λ v. push v (with_operands m rest)))
      rest
      (λ k. some_any Stays (slice_get m.top.slots (s + k)) (λ v. push v (with_operands m rest)) tt (λ v. so)))
  act_together (I.StoreAt s n) =
      two_stays
      (store_at s n)
      (λ v i rest. index_stays (index_in n i) (λ k. store_slot (s + k) v (with_operands m rest)) rest (λ k. store_stays (s + k) v rest))
  act_together I.Div = two_stays _ (λ a b rest. result_stays ZeroDivisionError _ rest)
  act_together I.Mod = two_stays _ (λ a b rest. result_stays ZeroDivisionError _ rest)
  act_together I.Add = two_stays _ (λ a b rest. so)
  act_together I.Sub = two_stays _ (λ a b rest. so)
  act_together I.Mul = two_stays _ (λ a b rest. so)
  act_together I.And = two_stays _ (λ a b rest. so)
  act_together I.Or = two_stays _ (λ a b rest. so)
  act_together I.Xor = two_stays _ (λ a b rest. so)
  act_together (I.Shl w) = two_stays _ (λ a b rest. so)
  act_together (I.Shr w) = two_stays _ (λ a b rest. so)
  act_together I.Neg = one_stays _ (λ a rest. so)
  act_together I.Inv = one_stays _ (λ a rest. so)
  act_together I.Wrap32 = one_stays _ (λ a rest. so)
  act_together I.Eq = two_stays _ (λ a b rest. so)
  act_together I.Ne = two_stays _ (λ a b rest. so)
  act_together I.Lt = two_stays _ (λ a b rest. so)
  act_together I.Le = two_stays _ (λ a b rest. so)
  act_together I.Max = two_stays _ (λ a b rest. so)
  act_together I.Pop = one_stays _ (λ a rest. so)
  act_together I.Dup = one_stays _ (λ a rest. so)
  act_together (I.JumpZero p) = one_stays (jump_if_zero p) (λ c rest. jump_stays p c rest)
  act_together I.Turn = unit_together total next m so (λ left. so)
  act_together (I.Call g) = some_any Stays (slice_get code.functions g) (λ called. call called m) tt call_stays
  act_together I.Return = return_stays m.top.function.value
  act_together I.EndTry = end_try_stays m.top.handlers
  act_together I.Raise = one_stays (λ c. raise (exception_of c)) (λ c rest. raises (exception_of c) rest)
  act_together I.At = one_stays _ (λ t rest. so)
  act_together I.Delay = one_stays _ (λ d rest. so)
  act_together (I.Out channel address) = one_stays (output channel address) (λ v rest. output_stays channel address v rest)
  act_together (I.OutTo channel) = two_stays (λ address. output channel (low_bits 8 address)) (λ address v rest. output_stays channel (low_bits 8 address) v rest)
  act_together I.Counter = number_together total Q.Counter m so
  act_together I.Reset = number_together total Q.Reset m so
  act_together I.Wait = one_stays (λ t. ask_only (Q.Wait t)) (λ t rest. only_together total (Q.Wait t) (with_operands m rest) so)
  act_together (I.Edge channel) = one_stays (λ up_to. ask_number (Q.Edge channel up_to)) (λ up_to rest. number_together total (Q.Edge channel up_to) (with_operands m rest) so)
  act_together (I.Record n) = named_stays n (λ name. open_recording m.recording name m) (λ name. open_stays m.recording name)
  act_together I.Save = save_stays m.recording
  act_together (I.Play n) = named_stays n (λ name. play (Q.Fetch name) m) (λ name. play_together total (Q.Fetch name) m so)
  act_together I.PlayHandle = one_stays (λ h. play (Q.FetchHandle h)) (λ h rest. play_together total (Q.FetchHandle h) (with_operands m rest) so)
  act_together (I.Handle n) = named_stays n (λ name. ask_number (Q.Handle name) m) (λ name. number_together total (Q.Handle name) m so)
  act_together (I.Erase n) = named_stays n (λ name. ask_only (Q.Erase name) m) (λ name. only_together total (Q.Erase name) m so)
  act_together (I.DataInt n) =
      named_stays
      n
      (λ name. on_one m (λ v. ask_only (Q.Data name (W.Int v))))
      (λ name. one_stays (λ v. ask_only (Q.Data name (W.Int v))) (λ v rest. only_together total (Q.Data name (W.Int v)) (with_operands m rest) so))
  act_together (I.DataList n s count) =
      named_stays
      n
      (λ name. on_some (array_at m.top.slots s count) (λ items. ask_only (Q.Data name (W.List items)) m))
      (λ name. some_any Stays (array_at m.top.slots s count) (λ items. ask_only (Q.Data name (W.List items)) m) tt (λ items. only_together total (Q.Data name (W.List items)) m so))
  act_together (I.Fill s n) =
      one_stays
      (λ v m'. on_some (array_at m'.top.slots s n) (λ old. next (with_slots m' (with_array m'.top.slots s (replicate n v)))))
      (λ v rest. some_any Stays (array_at m.top.slots s n) (λ old. next (with_slots (with_operands m rest) (with_array m.top.slots s (replicate n v)))) tt (λ old. so))
  act_together (I.Const v) = so
  act_together (I.Jump p) = so
  act_together (I.Try p) = so
  act_together I.Now = so

-- ---- runs

module _ (total : ℕ) (code : Code) where
  step_together : (m : Machine) → Together total m → StaysTogether total (step code m)
  step_together m so = by_line (slice_get code.lines m.top.place)
    where
      by_line : (o : Option CodeLine) → StaysTogether total (step_by code o m)
      by_line None = tt
      by_line (Some line) = act_together total code (counted m) so line.instr

  go_on_together : (next : Next) (again : Machine → Next) → StaysTogether total next → ((m : Machine) → Together total m → StaysTogether total (again m)) → StaysTogether total (go_on next again)
  go_on_together (goes m) again so on = on m so
  go_on_together (ends outcome m) again so on = so
  go_on_together stuck again so on = tt

  steps_together : (n : ℕ) (m : Machine) → Together total m → StaysTogether total (steps code n m)
  steps_together zero m so = so
  steps_together (suc n) m so = go_on_together (step code m) (steps code n) (step_together m so) (λ now later. steps_together n now later)

-- as many requests as replies at most, or one more where a reply is lacking
pub record TakesReplies (replies : List Reply) (ran : Ran) : Type 0 where
  pub lacking : ran.outcome ≡ unanswered → length ran.requests ≡ length replies + 1
  pub enough : ran.outcome ≢ unanswered → length ran.requests ≤ length replies

has_enough : (outcome : MachineEnd) (total : ℕ) (m : Machine) → outcome ≢ unanswered → StaysTogether total (ends outcome m) → length m.asked ≤ total
has_enough returned total m isnt so = omega (arith, so)
has_enough (raised x) total m isnt so = omega (arith, so)
has_enough budget total m isnt so = omega (arith, so)
has_enough unanswered total m isnt so = absurd (isnt refl)

lacks_one : (outcome : MachineEnd) (total : ℕ) (m : Machine) → outcome ≡ unanswered → StaysTogether total (ends outcome m) → length m.asked ≡ total + 1
lacks_one unanswered total m lacks so = so
lacks_one returned total m lacks so = absurd (cc)
lacks_one (raised x) total m lacks so = absurd (cc)
lacks_one budget total m lacks so = absurd (cc)

end_takes : (replies : List Reply) (next : Next) (ran : Ran) → StaysTogether (length replies) next → Gives next ran → TakesReplies replies ran
end_takes replies (goes m) ran so gives = absurd gives
end_takes replies (ends outcome m) ran so gives =
    let asked : length ran.requests ≡ length m.asked = ap (λ (r : Ran). length r.requests) gives in
    let same : ran.outcome ≡ outcome = ap (λ (r : Ran). r.outcome) gives in
    record {
      lacking = λ lacks. asked ∙ lacks_one outcome (length replies) m (sym same ∙ lacks) so;
      enough = λ isnt. let few : length m.asked ≤ length replies = has_enough outcome (length replies) m (λ lacks. isnt (same ∙ lacks)) so in omega (arith, few, asked);
    }
end_takes replies stuck ran so gives = absurd gives

pub each_request_takes_a_reply : (code : Code) (function : ℕ) (args : List ℤ) (cursor : ℤ) (units : ℕ) (replies : List Reply) (ran : Ran) → Runs code function args cursor units replies ran → TakesReplies replies ran
each_request_takes_a_reply code function args cursor units replies ran runs =
    end_takes
    replies
    (steps code runs.bound (boot runs.entry args cursor units replies))
    ran
    (steps_together (length replies) code runs.bound (boot runs.entry args cursor units replies) (omega arith))
    runs.gives
