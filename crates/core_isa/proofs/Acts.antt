-- Each instruction of marked code keeps a state sound.
use Rattle.std.proofs.Common.{◌≡◌, ℕ, suc, ◌+◌, ◌-◌, ◌<◌, ◌≤◌, List, ◌∷◌, length, take, drop, replicate, not, refl, sym, ◌∙◌, subst, arith}
use Rattle.std.specs.Prelude.{pos, ◌+ℤ◌, ◌-ℤ◌, ◌*ℤ◌, neg_ℤ, int_lt, int_le, slice_get}
use Rattle.std.specs.Int.{w32, w64, int_wrap, int_max, int_shr, int_bit_and, int_bit_or, int_bit_xor}
use Rattle.std.specs.Ordering.{int_eq}
use Rattle.rtio_types.specs.declared.outcome.Exc.TheVariants.{ZeroDivisionError}
use Rattle.rtio_types.specs.declared.request.Request.TheVariants as Q
use Rattle.rtio_types.specs.declared.request.Value.TheVariants as W
use Rattle.rtio_types.specs.Integers.{number_of, floor_quotient, floor_remainder, nonzero, shift_distance, shift_factor, low_bits}
use Rattle.rtio_types.specs.Time.{later}
use Rattle.core_isa.specs.declared.code.Code.{Code}
use Rattle.core_isa.specs.declared.code.Mark.{Mark}
use Rattle.core_isa.specs.declared.instr.Instr.{Instr}
use Rattle.core_isa.specs.declared.instr.Instr.TheVariants as I
use Rattle.core_isa.specs.Machine.{Machine, Next, with_operands, with_slots, next, push, raise, exception_of}
use Rattle.core_isa.specs.Marks.{Leads, GoesOn, OperandsExist, LiveIsAllowed, MarksFollow, function_index, Marked, HasOrder}
use Rattle.core_isa.specs.Sound.{StandsAt, StaysSound}
use Rattle.core_isa.specs.Steps.{on_one, on_some, store_slot, load_at, store_at, output, ask_number, ask_only, play, open_recording, call, array_at, with_array, jump_if_zero, named, act}
use Rattle.core_isa.proofs.Asking.{number_sound, only_sound, play_sound, output_sound}
use Rattle.core_isa.proofs.Families.{stands_same, found_at, pushes, one_to_one, two_to_one, two_to_some, one_to_none, two_to_none, store_sound, load_at_sound, store_at_sound, array_there, fill_sound, jump_sound}
use Rattle.core_isa.proofs.Frames.{call_sound, return_sound, try_sound, end_try_sound}
use Rattle.core_isa.proofs.OpenRecordings.{record_sound, save_sound}
use Rattle.core_isa.proofs.Passing.{PassesIn, passes, first_sound, some_sound}
use Rattle.core_isa.proofs.Raises.{raise_sound}
use Rattle.core_isa.proofs.Ready.{IsReady, goes_sound, next_sound, unit_sound}

-- where a jump leads the frame stands
stands_of : (code : Code) (index place to height tries rec : ℕ) → function_index code place ≡ index → Leads code place to (record { height = height; tries = tries; rec = rec }) → StandsAt code index to height tries rec
stands_of code index place to height tries rec same leads =
    record { same = leads.same ∙ same; marked = leads.marked }

module _ (code : Code) (m : Machine) (index rec : ℕ) (ready : IsReady code index rec m) (same : function_index code m.top.place ≡ index) where
  -- the mark of the instruction
  abbrev pub mark : Mark
  mark = record { height = length m.top.operands; tries = length m.top.handlers; rec = rec }

  pass : (taken given : ℕ) → GoesOn code m.top.place mark taken given → PassesIn code index rec m taken given
  pass taken given goes_on =
      passes code index rec m.top.place (length m.top.operands) (length m.top.handlers) taken given same goes_on

  stand : GoesOn code m.top.place mark 0 0 → StandsAt code index (m.top.place + 1) (length m.top.operands) (length m.top.handlers) rec
  stand goes_on = stands_same code index rec m (pass 0 0 goes_on)

  grown : GoesOn code m.top.place mark 0 1 → StandsAt code index (m.top.place + 1) (length m.top.operands + 1) (length m.top.handlers) rec
  grown goes_on = (pass 0 1 goes_on).onward (length m.top.operands) (omega arith)

  -- slots that the function has are there
  slot : (n : ℕ) → n ≤ m.top.function.slots → n ≤ length m.top.slots
  slot n within = subst (λ k. n ≤ k) (sym ready.keeps.full) within

  -- a name that the code has
  by_name : (n : ℕ) (go : List ℕ → Next) → n < length code.names → ((name : List ℕ) → StaysSound code (go name)) → StaysSound code (named code n go)
  by_name n go within on =
      let there = found_at code.names n within in some_sound code (slice_get code.names n) there.0 go there.1 (on there.0)

  load_acts : (s : ℕ) → s < m.top.function.slots → GoesOn code m.top.place mark 0 1 → StaysSound code (act code (I.Load s) m)
  load_acts s within goes_on =
      let there = found_at m.top.slots s (slot (suc s) within) in
      some_sound
      code
      (slice_get m.top.slots s)
      there.0
      (λ v. push v m)
      there.1
      (pushes code index rec there.0 m ready (pass 0 1 goes_on))

  dup_acts : GoesOn code m.top.place mark 1 2 → StaysSound code (act code I.Dup m)
  dup_acts goes_on =
      first_sound
      code
      m.top.operands
      (λ a m'. next (with_operands m' (a ∷ a ∷ m'.top.operands)))
      m
      goes_on.0
      (λ a rest all.
      next_sound
      code
      index
      rec
      (with_operands m (a ∷ a ∷ rest))
      ready
      (subst
      (λ h. StandsAt code index (m.top.place + 1) h (length m.top.handlers) rec)
      (let two : length rest + 2 ≡ suc (suc (length rest)) = omega arith in two)
      ((pass 1 2 goes_on).onward (length rest) all)))

  jump_zero_acts : (p : ℕ) → GoesOn code m.top.place mark 1 0 → Leads code m.top.place p (record mark { height = length m.top.operands - 1 + 0 }) → StaysSound code (act code (I.JumpZero p) m)
  jump_zero_acts p goes_on leads =
      first_sound
      code
      m.top.operands
      (jump_if_zero p)
      m
      goes_on.0
      (λ c rest all.
      jump_sound
      code
      index
      rec
      p
      c
      (with_operands m rest)
      ready
      (subst
      (λ h. StandsAt code index (m.top.place + 1) h (length m.top.handlers) rec)
      (let none : length rest + 0 ≡ length rest = omega arith in none)
      ((pass 1 0 goes_on).onward (length rest) all))
      (subst
      (λ h. StandsAt code index p h (length m.top.handlers) rec)
      (let left : length m.top.operands - 1 + 0 ≡ length rest = omega arith in left)
      (stands_of code index m.top.place p (length m.top.operands - 1 + 0) (length m.top.handlers) rec same leads)))

  load_at_acts : (s n : ℕ) → s + n ≤ m.top.function.slots → GoesOn code m.top.place mark 1 1 → StaysSound code (act code (I.LoadAt s n) m)
  load_at_acts s n within goes_on =
      first_sound
      code
      m.top.operands
      (load_at s n)
      m
      goes_on.0
      (λ i rest all.
      load_at_sound
      code
      index
      rec
      s
      n
      i
      (with_operands m rest)
      ready
      (slot (s + n) within)
      ((pass 1 1 goes_on).onward (length rest) all))

  edge_acts : (channel : ℕ) → GoesOn code m.top.place mark 1 1 → StaysSound code (act code (I.Edge channel) m)
  edge_acts channel goes_on =
      first_sound
      code
      m.top.operands
      (λ up_to. ask_number (Q.Edge channel up_to))
      m
      goes_on.0
      (λ up_to rest all.
      number_sound
      code
      index
      rec
      (Q.Edge channel up_to)
      (with_operands m rest)
      ready
      ((pass 1 1 goes_on).onward (length rest) all))

  raise_acts : 1 ≤ length m.top.operands → StaysSound code (act code I.Raise m)
  raise_acts some =
      first_sound
      code
      m.top.operands
      (λ c. raise (exception_of c))
      m
      some
      (λ c rest all. raise_sound code index rec (exception_of c) (with_operands m rest) ready)

  data_list_acts : (n s count : ℕ) → n < length code.names → s + count ≤ m.top.function.slots → GoesOn code m.top.place mark 0 0 → StaysSound code (act code (I.DataList n s count) m)
  data_list_acts n s count there within goes_on =
      by_name
      n
      (λ name. on_some (array_at m.top.slots s count) (λ items. ask_only (Q.Data name (W.List items)) m))
      there
      (λ name.
      some_sound
      code
      (array_at m.top.slots s count)
      (take count (drop s m.top.slots))
      (λ items. ask_only (Q.Data name (W.List items)) m)
      (array_there m.top.slots s count (slot (s + count) within))
      (only_sound code index rec (Q.Data name (W.List (take count (drop s m.top.slots)))) m ready (stand goes_on)))

  -- every instruction
  pub act_sound : HasOrder code → Marked code → (i : Instr) → OperandsExist code m.top.function i → LiveIsAllowed m.top.function mark i → MarksFollow code m.top.function m.top.place mark i → StaysSound code (act code i m)
  act_sound order marked (I.Const v) exist live follow = pushes code index rec v m ready (pass 0 1 follow)
  act_sound order marked (I.Load s) exist live follow = load_acts s exist follow
  act_sound order marked (I.Store s) exist live follow =
      one_to_none
      code
      index
      rec
      (λ v. store_slot s v)
      m
      (pass 1 0 follow)
      (λ v rest stands. store_sound code index rec s v (with_operands m rest) ready (slot (suc s) exist) stands)
  act_sound order marked (I.LoadAt s n) exist live follow = load_at_acts s n exist.1 follow
  act_sound order marked (I.StoreAt s n) exist live follow =
      two_to_none
      code
      index
      rec
      (store_at s n)
      m
      (pass 2 0 follow)
      (λ v i rest stands.
      store_at_sound code index rec s n v i (with_operands m rest) ready (slot (s + n) exist.1) stands)
  act_sound order marked I.Add exist live follow =
      two_to_one code index rec (λ a b. int_wrap w64 (a +ℤ b)) m ready (pass 2 1 follow)
  act_sound order marked I.Sub exist live follow =
      two_to_one code index rec (λ a b. int_wrap w64 (a -ℤ b)) m ready (pass 2 1 follow)
  act_sound order marked I.Mul exist live follow =
      two_to_one code index rec (λ a b. int_wrap w64 (a *ℤ b)) m ready (pass 2 1 follow)
  act_sound order marked I.Div exist live follow =
      two_to_some code index rec ZeroDivisionError (λ a b. nonzero b (int_wrap w64 (floor_quotient a b))) m ready (pass 2 1 follow)
  act_sound order marked I.Mod exist live follow =
      two_to_some code index rec ZeroDivisionError (λ a b. nonzero b (int_wrap w64 (floor_remainder a b))) m ready (pass 2 1 follow)
  act_sound order marked I.And exist live follow =
      two_to_one code index rec (λ a b. int_wrap w64 (int_bit_and w64 a b)) m ready (pass 2 1 follow)
  act_sound order marked I.Or exist live follow =
      two_to_one code index rec (λ a b. int_wrap w64 (int_bit_or w64 a b)) m ready (pass 2 1 follow)
  act_sound order marked I.Xor exist live follow =
      two_to_one code index rec (λ a b. int_wrap w64 (int_bit_xor w64 a b)) m ready (pass 2 1 follow)
  act_sound order marked (I.Shl w) exist live follow =
      two_to_one code index rec (λ a n. int_wrap w64 (a *ℤ pos (shift_factor w n))) m ready (pass 2 1 follow)
  act_sound order marked (I.Shr w) exist live follow =
      two_to_one code index rec (λ a n. int_wrap w64 (int_shr a (shift_distance w n))) m ready (pass 2 1 follow)
  act_sound order marked I.Neg exist live follow =
      one_to_one code index rec (λ a. int_wrap w64 (neg_ℤ a)) m ready (pass 1 1 follow)
  act_sound order marked I.Inv exist live follow =
      one_to_one code index rec (λ a. int_wrap w64 (neg_ℤ a -ℤ pos 1)) m ready (pass 1 1 follow)
  act_sound order marked I.Wrap32 exist live follow =
      one_to_one code index rec (λ a. int_wrap w32 a) m ready (pass 1 1 follow)
  act_sound order marked I.Eq exist live follow =
      two_to_one code index rec (λ a b. number_of (int_eq a b)) m ready (pass 2 1 follow)
  act_sound order marked I.Ne exist live follow =
      two_to_one code index rec (λ a b. number_of (not (int_eq a b))) m ready (pass 2 1 follow)
  act_sound order marked I.Lt exist live follow =
      two_to_one code index rec (λ a b. number_of (int_lt a b)) m ready (pass 2 1 follow)
  act_sound order marked I.Le exist live follow =
      two_to_one code index rec (λ a b. number_of (int_le a b)) m ready (pass 2 1 follow)
  act_sound order marked I.Max exist live follow =
      two_to_one code index rec (λ a b. int_max a b) m ready (pass 2 1 follow)
  act_sound order marked I.Pop exist live follow =
      one_to_none
      code
      index
      rec
      (λ a. next)
      m
      (pass 1 0 follow)
      (λ a rest stands. next_sound code index rec (with_operands m rest) ready stands)
  act_sound order marked I.Dup exist live follow = dup_acts follow
  act_sound order marked (I.Jump p) exist live follow =
      goes_sound
      code
      index
      rec
      (record m { top = record m.top { place = p } })
      ready
      (stands_of code index m.top.place p (length m.top.operands) (length m.top.handlers) rec same follow.0)
  act_sound order marked (I.JumpZero p) exist live follow = jump_zero_acts p follow.0 follow.1
  act_sound order marked I.Turn exist live follow =
      unit_sound
      code
      next
      m
      (λ left. next_sound code index rec (record m { units = left }) ready (stand follow))
  act_sound order marked (I.Call g) exist live follow =
      some_sound
      code
      (slice_get code.functions g)
      follow.0
      (λ called. call called m)
      follow.1
      (call_sound code order marked index rec g follow.0 m ready follow.1 (pass _ _ follow.2) follow.3)
  act_sound order marked I.Return exist live follow = return_sound code index rec m ready follow.1 follow.2
  act_sound order marked (I.Try p) exist live follow =
      try_sound
      code
      index
      rec
      p
      m
      ready
      follow.0
      (stands_of code index m.top.place (m.top.place + 1) (length m.top.operands) (length m.top.handlers + 1) rec same follow.1)
      (stands_of code index m.top.place p 1 (length m.top.handlers) rec same follow.3)
  act_sound order marked I.EndTry exist live follow =
      end_try_sound
      code
      index
      rec
      m.top.handlers
      m
      ready
      follow.0
      follow.1
      (stands_of code index m.top.place (m.top.place + 1) (length m.top.operands) (length m.top.handlers - 1) rec same follow.2)
  act_sound order marked I.Raise exist live follow = raise_acts follow
  act_sound order marked I.Now exist live follow = pushes code index rec m.cursor m ready (pass 0 1 follow)
  act_sound order marked I.At exist live follow =
      one_to_none
      code
      index
      rec
      (λ t m'. next (record m' { cursor = t }))
      m
      (pass 1 0 follow)
      (λ t rest stands. next_sound code index rec (record (with_operands m rest) { cursor = t }) ready stands)
  act_sound order marked I.Delay exist live follow =
      one_to_none
      code
      index
      rec
      (λ d m'. next (record m' { cursor = later m'.cursor d }))
      m
      (pass 1 0 follow)
      (λ d rest stands.
      next_sound code index rec (record (with_operands m rest) { cursor = later m.cursor d }) ready stands)
  act_sound order marked (I.Out channel address) exist live follow =
      one_to_none
      code
      index
      rec
      (output channel address)
      m
      (pass 1 0 follow)
      (λ v rest stands. output_sound code index rec channel address v (with_operands m rest) ready stands)
  act_sound order marked (I.OutTo channel) exist live follow =
      two_to_none
      code
      index
      rec
      (λ address. output channel (low_bits 8 address))
      m
      (pass 2 0 follow)
      (λ address v rest stands.
      output_sound code index rec channel (low_bits 8 address) v (with_operands m rest) ready stands)
  act_sound order marked I.Counter exist live follow = number_sound code index rec Q.Counter m ready (grown follow)
  act_sound order marked I.Reset exist live follow = number_sound code index rec Q.Reset m ready (grown follow)
  act_sound order marked I.Wait exist live follow =
      one_to_none
      code
      index
      rec
      (λ t. ask_only (Q.Wait t))
      m
      (pass 1 0 follow)
      (λ t rest stands. only_sound code index rec (Q.Wait t) (with_operands m rest) ready stands)
  act_sound order marked (I.Edge channel) exist live follow = edge_acts channel follow
  act_sound order marked (I.Record n) exist live follow =
      by_name
      n
      (λ name. open_recording m.recording name m)
      exist
      (λ name.
      record_sound
      code
      index
      rec
      name
      m
      ready
      follow.0
      (live refl).1
      (stands_of code index m.top.place (m.top.place + 1) (length m.top.operands) (length m.top.handlers) (length m.top.handlers + 1) same follow.1))
  act_sound order marked I.Save exist live follow =
      save_sound
      code
      index
      rec
      m
      ready
      follow.1
      (stands_of code index m.top.place (m.top.place + 1) (length m.top.operands) (length m.top.handlers) 0 same follow.2)
  act_sound order marked (I.Play n) exist live follow =
      by_name
      n
      (λ name. play (Q.Fetch name) m)
      exist
      (λ name. play_sound code index rec (Q.Fetch name) m ready (stand follow))
  act_sound order marked I.PlayHandle exist live follow =
      one_to_none
      code
      index
      rec
      (λ h. play (Q.FetchHandle h))
      m
      (pass 1 0 follow)
      (λ h rest stands. play_sound code index rec (Q.FetchHandle h) (with_operands m rest) ready stands)
  act_sound order marked (I.Handle n) exist live follow =
      by_name
      n
      (λ name. ask_number (Q.Handle name) m)
      exist
      (λ name. number_sound code index rec (Q.Handle name) m ready (grown follow))
  act_sound order marked (I.Erase n) exist live follow =
      by_name
      n
      (λ name. ask_only (Q.Erase name) m)
      exist
      (λ name. only_sound code index rec (Q.Erase name) m ready (stand follow))
  act_sound order marked (I.DataInt n) exist live follow =
      by_name
      n
      (λ name. on_one m (λ v. ask_only (Q.Data name (W.Int v))))
      exist
      (λ name.
      one_to_none
      code
      index
      rec
      (λ v. ask_only (Q.Data name (W.Int v)))
      m
      (pass 1 0 follow)
      (λ v rest stands.
      only_sound code index rec (Q.Data name (W.Int v)) (with_operands m rest) ready stands))
  act_sound order marked (I.DataList n s count) exist live follow = data_list_acts n s count exist.0 exist.1.1 follow
  act_sound order marked (I.Fill s n) exist live follow =
      one_to_none
      code
      index
      rec
      (λ v m'. on_some (array_at m'.top.slots s n) (λ old. next (with_slots m' (with_array m'.top.slots s (replicate n v)))))
      m
      (pass 1 0 follow)
      (λ v rest stands. fill_sound code index rec s n v (with_operands m rest) ready (slot (s + n) exist.1) stands)
