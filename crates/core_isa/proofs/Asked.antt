-- Each instruction of marked code asks only what is well formed.
use Rattle.std.proofs.Common.{◌≡◌, ℕ, suc, ◌+◌, ◌^◌, ◌<◌, List, [], ◌∷◌, ◌++◌, length, Bool, true, false, Option, Some, None, IsTrue, refl, sym, ◌∙◌, ap, subst, arith, length-append}
use Rattle.std.specs.Prelude.{ℤ, pos, negsuc, slice_get, nat_lt, nat_le, slice_set, replicate, if◌then◌else◌}
use Rattle.std.specs.List.{list_all}
use Rattle.std.proofs.lemmas.Bool.{and_from, lt-ltb}
use Rattle.std.proofs.lemmas.List.Folds.{list_all-append}
use Rattle.rtio_types.specs.declared.board.ChannelKind.TheVariants as K
use Rattle.rtio_types.specs.declared.event.Event.{Event}
use Rattle.rtio_types.specs.declared.outcome.Exc.{Exc}
use Rattle.rtio_types.specs.declared.outcome.Exc.TheVariants.{ZeroDivisionError, IndexError, StackOverflow}
use Rattle.rtio_types.specs.declared.request.Request.TheVariants as Q
use Rattle.rtio_types.specs.declared.request.Reply.{Reply}
use Rattle.rtio_types.specs.declared.request.Value.TheVariants as W
use Rattle.rtio_types.specs.Board.{kind_of_channel, has_address, is_input_kind, is_of_board, are_of_board}
use Rattle.rtio_types.specs.Integers.{is_true, low_bits}
use Rattle.core_isa.specs.declared.code.Code.{Code}
use Rattle.core_isa.specs.declared.code.CodeFunction.{CodeFunction}
use Rattle.core_isa.specs.declared.instr.Instr.{Instr}
use Rattle.core_isa.specs.declared.instr.Instr.TheVariants as I
use Rattle.core_isa.specs.Machine.{HandlerPoint, Frame, OpenRecording, Machine, Next, goes, with_operands, with_slots, at_place, next, push, raise, exception_of, ask_then}
use Rattle.core_isa.specs.Marks.{OperandsExist}
use Rattle.core_isa.specs.Steps.{on_one, on_two, on_some, push_or_raise, array_at, with_array, index_in, store_slot, index_or_raise, load_at, store_at, submit_or_collect, event_at, output, ask_number, ask_only, play, open_recording, save_request, save_recording, enter_if, call_if, call, leave, return_from, end_try, jump_if_zero, named, act}
use Rattle.core_isa.proofs.Askable.{events_open, IsAskable, Askable, StaysAskable, fewer_askable, raise_askable, unit_askable, ask_askable, number_askable, only_askable, play_askable}
use Rattle.core_isa.proofs.Lighter.{first_any, two_any, some_any}

-- the low byte of a number is an address of a raw output
low_byte : (z : ℤ) → low_bits 8 z < 256
low_byte (pos a) = omega arith
low_byte (negsuc a) = omega arith

raw_address : (channel : ℕ) (z : ℤ) → kind_of_channel channel ≡ Some K.OutRaw → IsTrue (has_address (kind_of_channel channel) (low_bits 8 z))
raw_address channel z raw =
    subst (λ kind. IsTrue (has_address kind (low_bits 8 z))) (sym raw) (lt-ltb (low_bits 8 z) 256 (low_byte z))

-- one more output of the board
more_of_board : (events : List Event) (event : Event) → IsTrue (are_of_board events) → IsTrue (is_of_board event) → IsTrue (are_of_board (events ++ event ∷ []))
more_of_board events event board one =
    list_all-append is_of_board events (event ∷ [])
    ∙ and_from (list_all is_of_board events) (list_all is_of_board (event ∷ [])) board (and_from (is_of_board event) true one refl)

module _ (given : List Reply) (code : Code) (m : Machine) (askable : Askable given m) where
  abbrev Stays : Next → Type 0
  Stays = StaysAskable given

  -- operands are taken, and the rest asks nothing
  one_stays : (go : ℤ → Machine → Next) → ((a : ℤ) (rest : List ℤ) → Stays (go a (with_operands m rest))) → Stays (on_one m go)
  one_stays go on = first_any Stays m.top.operands go m tt on

  two_stays : (go : ℤ → ℤ → Machine → Next) → ((a b : ℤ) (rest : List ℤ) → Stays (go a b (with_operands m rest))) → Stays (on_two m go)
  two_stays go on = two_any Stays go m tt on

  raises : (x : Exc) (rest : List ℤ) → Stays (raise x (with_operands m rest))
  raises x rest = raise_askable given x (with_operands m rest) askable

  result_stays : (x : Exc) (o : Option ℤ) (rest : List ℤ) → Stays (push_or_raise x o (with_operands m rest))
  result_stays x None rest = raises x rest
  result_stays x (Some v) rest = askable

  store_stays : (s : ℕ) (v : ℤ) (rest : List ℤ) → Stays (store_slot s v (with_operands m rest))
  store_stays s v rest =
      some_any
      Stays
      (slice_get m.top.slots s)
      (λ old. next (with_slots (with_operands m rest) (slice_set m.top.slots s v)))
      tt
      (λ old. askable)

  index_stays : (o : Option ℕ) (go : ℕ → Next) (rest : List ℤ) → ((k : ℕ) → Stays (go k)) → Stays (index_or_raise o go (with_operands m rest))
  index_stays None go rest on = raises IndexError rest
  index_stays (Some k) go rest on = on k

  named_stays : (n : ℕ) (go : List ℕ → Next) → ((name : List ℕ) → Stays (go name)) → Stays (named code n go)
  named_stays n go on = some_any Stays (slice_get code.names n) go tt on

  -- an output of the board
  output_stays : (channel address : ℕ) (v : ℤ) (rest : List ℤ) → IsTrue (has_address (kind_of_channel channel) address) → Stays (output channel address v (with_operands m rest))
  output_stays channel address v rest board =
      unit_askable
      given
      (submit_or_collect m.recording (event_at m.cursor channel address v))
      (with_operands m rest)
      askable
      (λ left taken. by_recording left taken m.recording askable)
    where
      event : Event
      event = event_at m.cursor channel address v

      by_recording : (left : ℕ) → suc left ≡ m.units → (recording : Option OpenRecording)
          → IsAskable given m.asked m.replies m.units recording
          → Stays (submit_or_collect recording event (record (with_operands m rest) { units = left; recording = recording }))
      by_recording left taken None askable =
          ask_askable
          given
          (Q.Out event)
          (λ reply. next)
          (record (with_operands m rest) { units = left; recording = None })
          (fewer_askable given m.asked m.replies m.units left None (omega arith) askable)
          (λ fit. board)
          (λ reply replies fits later. later)
      by_recording left taken (Some open_one) askable =
          record {
            left = askable.left;
            well = askable.well;
            board = λ fit. more_of_board open_one.events event (askable.board fit) board;
            bound =
                simp length-append
                (let bound : length open_one.events + m.units < 2 ^ 32 = askable.bound in omega arith);
          }

  save_stays : (recording : Option OpenRecording) → IsAskable given m.asked m.replies m.units recording → Stays (save_recording recording (record m { recording = recording }))
  save_stays None askable = tt
  save_stays (Some open_one) askable =
      unit_askable
      given
      (λ m'.
      ask_then
      (save_request open_one m.cursor)
      (λ reply. next)
      (record m' { cursor = open_one.saved; recording = None }))
      (record m { recording = Some open_one })
      askable
      (λ left taken.
      ask_askable
      given
      (save_request open_one m.cursor)
      (λ reply. next)
      (record m { units = left; cursor = open_one.saved; recording = None })
      (record {
        left = askable.left;
        well = askable.well;
        board = λ fit. refl;
        bound = let bound : length open_one.events + m.units < 2 ^ 32 = askable.bound in omega arith;
      })
      (λ fit.
      and_from
      (nat_lt (length open_one.events) (2 ^ 32))
      (are_of_board open_one.events)
      (lt-ltb
      (length open_one.events)
      (2 ^ 32)
      (let bound : length open_one.events + m.units < 2 ^ 32 = askable.bound in omega arith))
      (askable.board fit))
      (λ reply replies fits later. later))

  open_stays : (recording : Option OpenRecording) (name : List ℕ) → Stays (open_recording recording name m)
  open_stays (Some open_one) name = tt
  open_stays None name =
      record {
        left = askable.left;
        well = askable.well;
        board = λ fit. refl;
        bound = let bound : length (events_open m.recording) + m.units < 2 ^ 32 = askable.bound in omega arith;
      }

  call_stays : (called : CodeFunction) → Stays (call called m)
  call_stays called =
      unit_askable
      given
      (λ m'. call_if (nat_lt (length m'.callers + 1) 64) called m')
      m
      askable
      (λ left taken.
      by_room
      left
      (nat_lt (length m.callers + 1) 64)
      (fewer_askable given m.asked m.replies m.units left m.recording (omega arith) askable))
    where
      by_arguments : (left : ℕ) (b : Bool) → IsAskable given m.asked m.replies left m.recording → Stays (enter_if b called (record m { units = left }))
      by_arguments left true fewer = fewer
      by_arguments left false fewer = tt

      by_room : (left : ℕ) (room : Bool) → IsAskable given m.asked m.replies left m.recording → Stays (call_if room called (record m { units = left }))
      by_room left false fewer = raise_askable given StackOverflow (record m { units = left }) fewer
      by_room left true fewer = by_arguments left (nat_le called.params (length m.top.operands)) fewer

  leave_stays : (callers : List Frame) (go : Machine → Next) (rest : List ℤ) → ((caller : Frame) (others : List Frame) → Stays (go (record m { top = caller; callers = others }))) → Stays (leave callers go (with_operands m rest))
  leave_stays [] go rest on = askable
  leave_stays (caller ∷ callers) go rest on = on caller callers

  return_stays : (b : Bool) → Stays (return_from b m)
  return_stays false = leave_stays m.callers next m.top.operands (λ caller others. askable)
  return_stays true =
      one_stays
      (λ v m'. leave m'.callers (push v) m')
      (λ v rest. leave_stays m.callers (push v) rest (λ caller others. askable))

  end_try_stays : (handlers : List HandlerPoint) → Stays (end_try handlers m)
  end_try_stays [] = tt
  end_try_stays (handler ∷ rest) = askable

  jump_stays : (p : ℕ) (c : ℤ) (rest : List ℤ) → Stays (jump_if_zero p c (with_operands m rest))
  jump_stays p c rest = by_test (is_true c)
    where
      by_test : (b : Bool) → Stays (if b then next (with_operands m rest) else goes (at_place (with_operands m rest) p))
      by_test true = askable
      by_test false = askable

  -- each instruction
  pub act_asks : (f : CodeFunction) (i : Instr) → OperandsExist code f i → StaysAskable given (act code i m)
  act_asks f (I.Load s) exist = some_any Stays (slice_get m.top.slots s) (λ v. push v m) tt (λ v. askable)
  act_asks f (I.Store s) exist = one_stays (λ v. store_slot s v) (λ v rest. store_stays s v rest)
  act_asks f (I.LoadAt s n) exist =
      one_stays
      (load_at s n)
      (λ i rest.
      index_stays
      (index_in n i)
      (λ k. on_some (slice_get m.top.slots (s + k)) (λ v. push v (with_operands m rest)))
      rest
      (λ k.
      some_any
      Stays
      (slice_get m.top.slots (s + k))
      (λ v. push v (with_operands m rest))
      tt
      (λ v. askable)))
  act_asks f (I.StoreAt s n) exist =
      two_stays
      (store_at s n)
      (λ v i rest.
      index_stays
      (index_in n i)
      (λ k. store_slot (s + k) v (with_operands m rest))
      rest
      (λ k. store_stays (s + k) v rest))
  act_asks f I.Div exist = two_stays _ (λ a b rest. result_stays ZeroDivisionError _ rest)
  act_asks f I.Mod exist = two_stays _ (λ a b rest. result_stays ZeroDivisionError _ rest)
  act_asks f I.Add exist = two_stays _ (λ a b rest. askable)
  act_asks f I.Sub exist = two_stays _ (λ a b rest. askable)
  act_asks f I.Mul exist = two_stays _ (λ a b rest. askable)
  act_asks f I.And exist = two_stays _ (λ a b rest. askable)
  act_asks f I.Or exist = two_stays _ (λ a b rest. askable)
  act_asks f I.Xor exist = two_stays _ (λ a b rest. askable)
  act_asks f (I.Shl w) exist = two_stays _ (λ a b rest. askable)
  act_asks f (I.Shr w) exist = two_stays _ (λ a b rest. askable)
  act_asks f I.Neg exist = one_stays _ (λ a rest. askable)
  act_asks f I.Inv exist = one_stays _ (λ a rest. askable)
  act_asks f I.Wrap32 exist = one_stays _ (λ a rest. askable)
  act_asks f I.Eq exist = two_stays _ (λ a b rest. askable)
  act_asks f I.Ne exist = two_stays _ (λ a b rest. askable)
  act_asks f I.Lt exist = two_stays _ (λ a b rest. askable)
  act_asks f I.Le exist = two_stays _ (λ a b rest. askable)
  act_asks f I.Max exist = two_stays _ (λ a b rest. askable)
  act_asks f I.Pop exist = one_stays _ (λ a rest. askable)
  act_asks f I.Dup exist = one_stays _ (λ a rest. askable)
  act_asks f (I.JumpZero p) exist = one_stays (jump_if_zero p) (λ c rest. jump_stays p c rest)
  act_asks f I.Turn exist =
      unit_askable
      given
      next
      m
      askable
      (λ left taken. fewer_askable given m.asked m.replies m.units left m.recording (omega arith) askable)
  act_asks f (I.Call g) exist =
      some_any Stays (slice_get code.functions g) (λ called. call called m) tt call_stays
  act_asks f I.Return exist = return_stays m.top.function.value
  act_asks f I.EndTry exist = end_try_stays m.top.handlers
  act_asks f I.Raise exist = one_stays (λ c. raise (exception_of c)) (λ c rest. raises (exception_of c) rest)
  act_asks f I.At exist = one_stays _ (λ t rest. askable)
  act_asks f I.Delay exist = one_stays _ (λ d rest. askable)
  act_asks f (I.Out channel address) exist =
      one_stays (output channel address) (λ v rest. output_stays channel address v rest exist)
  act_asks f (I.OutTo channel) exist =
      two_stays
      (λ address. output channel (low_bits 8 address))
      (λ address v rest.
      output_stays channel (low_bits 8 address) v rest (raw_address channel address exist))
  act_asks f I.Counter exist = number_askable given Q.Counter m askable (λ fit. refl)
  act_asks f I.Reset exist = number_askable given Q.Reset m askable (λ fit. refl)
  act_asks f I.Wait exist =
      one_stays
      (λ t. ask_only (Q.Wait t))
      (λ t rest. only_askable given (Q.Wait t) (with_operands m rest) askable (λ fit. refl))
  act_asks f (I.Edge channel) exist =
      one_stays
      (λ up_to. ask_number (Q.Edge channel up_to))
      (λ up_to rest.
      number_askable
      given
      (Q.Edge channel up_to)
      (with_operands m rest)
      askable
      (λ fit. ap is_input_kind exist))
  act_asks f (I.Record n) exist =
      named_stays n (λ name. open_recording m.recording name m) (λ name. open_stays m.recording name)
  act_asks f I.Save exist = save_stays m.recording askable
  act_asks f (I.Play n) exist =
      named_stays
      n
      (λ name. play (Q.Fetch name) m)
      (λ name. play_askable given (Q.Fetch name) m askable refl (λ events length' fits. fits))
  act_asks f I.PlayHandle exist =
      one_stays
      (λ h. play (Q.FetchHandle h))
      (λ h rest.
      play_askable given (Q.FetchHandle h) (with_operands m rest) askable refl (λ events length' fits. fits))
  act_asks f (I.Handle n) exist =
      named_stays
      n
      (λ name. ask_number (Q.Handle name) m)
      (λ name. number_askable given (Q.Handle name) m askable (λ fit. refl))
  act_asks f (I.Erase n) exist =
      named_stays
      n
      (λ name. ask_only (Q.Erase name) m)
      (λ name. only_askable given (Q.Erase name) m askable (λ fit. refl))
  act_asks f (I.DataInt n) exist =
      named_stays
      n
      (λ name. on_one m (λ v. ask_only (Q.Data name (W.Int v))))
      (λ name.
      one_stays
      (λ v. ask_only (Q.Data name (W.Int v)))
      (λ v rest. only_askable given (Q.Data name (W.Int v)) (with_operands m rest) askable (λ fit. refl)))
  act_asks f (I.DataList n s count) exist =
      named_stays
      n
      (λ name. on_some (array_at m.top.slots s count) (λ items. ask_only (Q.Data name (W.List items)) m))
      (λ name.
      some_any
      Stays
      (array_at m.top.slots s count)
      (λ items. ask_only (Q.Data name (W.List items)) m)
      tt
      (λ items. only_askable given (Q.Data name (W.List items)) m askable (λ fit. refl)))
  act_asks f (I.Fill s n) exist =
      one_stays
      (λ v m'. on_some (array_at m'.top.slots s n) (λ old. next (with_slots m' (with_array m'.top.slots s (replicate n v)))))
      (λ v rest.
      some_any
      Stays
      (array_at m.top.slots s n)
      (λ old. next (with_slots (with_operands m rest) (with_array m.top.slots s (replicate n v))))
      tt
      (λ old. askable))
  act_asks f (I.Const v) exist = askable
  act_asks f (I.Jump p) exist = askable
  act_asks f (I.Try p) exist = askable
  act_asks f I.Now exist = askable
