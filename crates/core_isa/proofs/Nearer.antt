-- Each instruction of marked code brings the run nearer to its end.
use Rattle.std.proofs.Common.{◌≡◌, ◌<◌, List, ◌∷◌, length, replicate, Bool, true, false, not, refl, le_refl}
use Rattle.std.specs.Prelude.{ℤ, pos, ◌+ℤ◌, ◌-ℤ◌, ◌*ℤ◌, neg_ℤ, int_lt, int_le, slice_get, if◌then◌else◌}
use Rattle.std.specs.Int.{w32, w64, int_wrap, int_max, int_shr, int_bit_and, int_bit_or, int_bit_xor}
use Rattle.std.specs.Ordering.{int_eq}
use Rattle.rtio_types.specs.declared.request.Request.TheVariants as Q
use Rattle.rtio_types.specs.declared.request.Value.TheVariants as W
use Rattle.rtio_types.specs.Integers.{number_of, is_true, floor_quotient, floor_remainder, nonzero, shift_distance, shift_factor, low_bits}
use Rattle.rtio_types.specs.Time.{later}
use Rattle.core_isa.specs.declared.code.Code.{Code}
use Rattle.core_isa.specs.declared.code.CodeFunction.{CodeFunction}
use Rattle.core_isa.specs.declared.code.Mark.{Mark}
use Rattle.core_isa.specs.declared.instr.Instr.{Instr}
use Rattle.core_isa.specs.declared.instr.Instr.TheVariants as I
use Rattle.core_isa.specs.Machine.{Machine, goes, with_operands, with_slots, at_place, next, push, raise, exception_of}
use Rattle.core_isa.specs.Marks.{MarksFollow, takes_unit_first, is_turn_or_edge}
use Rattle.core_isa.specs.Falling.{second_number}
use Rattle.core_isa.specs.Steps.{on_one, on_some, array_at, with_array, store_slot, output, ask_number, ask_only, play, open_recording, call, jump_if_zero, act}
use Rattle.core_isa.proofs.Weights.{IsNearer, nearer_by_weight}
use Rattle.core_isa.proofs.Lighter.{two_any, some_any, next_lighter, raise_lighter, unit_nearer, number_nearer, only_nearer, play_nearer}
use Rattle.core_isa.proofs.NearerFamilies.{Light, two_light, divides_light, one_light, push_light, store_light, load_at_light, store_at_light, return_light, jump_nearer, try_light, end_try_light, output_nearer, save_nearer, call_nearer, open_light, goes_light, goes_nearer, named_nearer, by_weight}

module _ (code : Code) (m : Machine) (within : m.top.place < length code.lines) where
  -- each instruction
  pub act_nearer : (f : CodeFunction) (mark : Mark) (i : Instr) → takes_unit_first (slice_get code.lines m.top.place) ≡ is_turn_or_edge i → MarksFollow code f m.top.place mark i → IsNearer code m (act code i m)
  act_nearer f mark (I.Const v) free follow = by_weight code m within (I.Const v) free (push_light code m within v)
  act_nearer f mark (I.Load s) free follow =
      by_weight code m within (I.Load s) free (some_any (Light code m within) (slice_get m.top.slots s) (λ v. push v m) tt (push_light code m within))
  act_nearer f mark (I.Store s) free follow =
      by_weight code m within (I.Store s) free (goes_light code m within (λ v. store_slot s v) (λ v rest. store_light code m within s v rest))
  act_nearer f mark (I.LoadAt s n) free follow = by_weight code m within (I.LoadAt s n) free (load_at_light code m within s n)
  act_nearer f mark (I.StoreAt s n) free follow = by_weight code m within (I.StoreAt s n) free (store_at_light code m within s n)
  act_nearer f mark I.Add free follow = by_weight code m within I.Add free (two_light code m within (λ a b. int_wrap w64 (a +ℤ b)))
  act_nearer f mark I.Sub free follow = by_weight code m within I.Sub free (two_light code m within (λ a b. int_wrap w64 (a -ℤ b)))
  act_nearer f mark I.Mul free follow = by_weight code m within I.Mul free (two_light code m within (λ a b. int_wrap w64 (a *ℤ b)))
  act_nearer f mark I.Div free follow =
      by_weight code m within I.Div free (divides_light code m within (λ a b. nonzero b (int_wrap w64 (floor_quotient a b))))
  act_nearer f mark I.Mod free follow =
      by_weight code m within I.Mod free (divides_light code m within (λ a b. nonzero b (int_wrap w64 (floor_remainder a b))))
  act_nearer f mark I.And free follow =
      by_weight code m within I.And free (two_light code m within (λ a b. int_wrap w64 (int_bit_and w64 a b)))
  act_nearer f mark I.Or free follow =
      by_weight code m within I.Or free (two_light code m within (λ a b. int_wrap w64 (int_bit_or w64 a b)))
  act_nearer f mark I.Xor free follow =
      by_weight code m within I.Xor free (two_light code m within (λ a b. int_wrap w64 (int_bit_xor w64 a b)))
  act_nearer f mark (I.Shl w) free follow =
      by_weight code m within (I.Shl w) free (two_light code m within (λ a n. int_wrap w64 (a *ℤ pos (shift_factor w n))))
  act_nearer f mark (I.Shr w) free follow =
      by_weight code m within (I.Shr w) free (two_light code m within (λ a n. int_wrap w64 (int_shr a (shift_distance w n))))
  act_nearer f mark I.Neg free follow = by_weight code m within I.Neg free (one_light code m within (λ a. int_wrap w64 (neg_ℤ a)))
  act_nearer f mark I.Inv free follow =
      by_weight code m within I.Inv free (one_light code m within (λ a. int_wrap w64 (neg_ℤ a -ℤ pos 1)))
  act_nearer f mark I.Wrap32 free follow = by_weight code m within I.Wrap32 free (one_light code m within (λ a. int_wrap w32 a))
  act_nearer f mark I.Eq free follow = by_weight code m within I.Eq free (two_light code m within (λ a b. number_of (int_eq a b)))
  act_nearer f mark I.Ne free follow =
      by_weight code m within I.Ne free (two_light code m within (λ a b. number_of (not (int_eq a b))))
  act_nearer f mark I.Lt free follow = by_weight code m within I.Lt free (two_light code m within (λ a b. number_of (int_lt a b)))
  act_nearer f mark I.Le free follow = by_weight code m within I.Le free (two_light code m within (λ a b. number_of (int_le a b)))
  act_nearer f mark I.Max free follow = by_weight code m within I.Max free (two_light code m within (λ a b. int_max a b))
  act_nearer f mark I.Pop free follow =
      by_weight code m within
      I.Pop
      free
      (goes_light code m within
      (λ a. next)
      (λ a rest. next_lighter code m.units (second_number code m) (with_operands m rest) refl within (le_refl _)))
  act_nearer f mark I.Dup free follow =
      by_weight code m within
      I.Dup
      free
      (goes_light code m within
      (λ a m'. next (with_operands m' (a ∷ a ∷ m'.top.operands)))
      (λ a rest.
      next_lighter code m.units (second_number code m) (with_operands m (a ∷ a ∷ rest)) refl within (le_refl _)))
  act_nearer f mark (I.Jump p) free follow = jump_nearer code m within p m.top.operands free follow.1
  act_nearer f mark (I.JumpZero p) free follow =
      goes_nearer code m within (jump_if_zero p) (λ c rest. by_test rest (is_true c))
    where
      by_test : (rest : List ℤ) (b : Bool) → IsNearer code m (if b then next (with_operands m rest) else goes (at_place (with_operands m rest) p))
      by_test rest true =
          nearer_by_weight
          code
          m
          (next (with_operands m rest))
          free
          (next_lighter code m.units (second_number code m) (with_operands m rest) refl within (le_refl _))
      by_test rest false = jump_nearer code m within p rest free follow.2
  act_nearer f mark I.Turn free follow = unit_nearer code m next m refl (λ left. le_refl left)
  act_nearer f mark (I.Call g) free follow =
      some_any (IsNearer code m) (slice_get code.functions g) (λ called. call called m) tt (call_nearer code m within)
  act_nearer f mark I.Return free follow = by_weight code m within I.Return free (return_light code m within m.top.function.value)
  act_nearer f mark (I.Try p) free follow = by_weight code m within (I.Try p) free (try_light code m within p follow.2)
  act_nearer f mark I.EndTry free follow = by_weight code m within I.EndTry free (end_try_light code m within m.top.handlers refl)
  act_nearer f mark I.Raise free follow =
      by_weight code m within
      I.Raise
      free
      (goes_light code m within
      (λ c. raise (exception_of c))
      (λ c rest.
      raise_lighter code m.units (second_number code m) (exception_of c) (with_operands m rest) refl (le_refl _)))
  act_nearer f mark I.Now free follow = by_weight code m within I.Now free (push_light code m within m.cursor)
  act_nearer f mark I.At free follow =
      by_weight code m within
      I.At
      free
      (goes_light code m within
      (λ t m'. next (record m' { cursor = t }))
      (λ t rest.
      next_lighter
      code
      m.units
      (second_number code m)
      (record (with_operands m rest) { cursor = t })
      refl
      within
      (le_refl _)))
  act_nearer f mark I.Delay free follow =
      by_weight code m within
      I.Delay
      free
      (goes_light code m within
      (λ d m'. next (record m' { cursor = later m'.cursor d }))
      (λ d rest.
      next_lighter
      code
      m.units
      (second_number code m)
      (record (with_operands m rest) { cursor = later m.cursor d })
      refl
      within
      (le_refl _)))
  act_nearer f mark (I.Out channel address) free follow =
      goes_nearer code m within (output channel address) (λ v rest. output_nearer code m within channel address v rest)
  act_nearer f mark (I.OutTo channel) free follow =
      two_any
      (IsNearer code m)
      (λ address. output channel (low_bits 8 address))
      m
      tt
      (λ address v rest. output_nearer code m within channel (low_bits 8 address) v rest)
  act_nearer f mark I.Counter free follow = number_nearer code m Q.Counter m refl
  act_nearer f mark I.Reset free follow = number_nearer code m Q.Reset m refl
  act_nearer f mark I.Wait free follow =
      goes_nearer code m within (λ t. ask_only (Q.Wait t)) (λ t rest. only_nearer code m (Q.Wait t) (with_operands m rest) refl)
  act_nearer f mark (I.Edge channel) free follow =
      goes_nearer code m within
      (λ up_to. ask_number (Q.Edge channel up_to))
      (λ up_to rest. number_nearer code m (Q.Edge channel up_to) (with_operands m rest) refl)
  act_nearer f mark (I.Record n) free follow =
      by_weight code m within
      (I.Record n)
      free
      (some_any
      (Light code m within)
      (slice_get code.names n)
      (λ name. open_recording m.recording name m)
      tt
      (λ name. open_light code m within m.recording name))
  act_nearer f mark I.Save free follow = save_nearer code m within m.recording
  act_nearer f mark (I.Play n) free follow =
      named_nearer code m within n (λ name. play (Q.Fetch name) m) (λ name. play_nearer code m (Q.Fetch name) m refl)
  act_nearer f mark I.PlayHandle free follow =
      goes_nearer code m within
      (λ h. play (Q.FetchHandle h))
      (λ h rest. play_nearer code m (Q.FetchHandle h) (with_operands m rest) refl)
  act_nearer f mark (I.Handle n) free follow =
      named_nearer code m within n (λ name. ask_number (Q.Handle name) m) (λ name. number_nearer code m (Q.Handle name) m refl)
  act_nearer f mark (I.Erase n) free follow =
      named_nearer code m within n (λ name. ask_only (Q.Erase name) m) (λ name. only_nearer code m (Q.Erase name) m refl)
  act_nearer f mark (I.DataInt n) free follow =
      named_nearer code m within
      n
      (λ name. on_one m (λ v. ask_only (Q.Data name (W.Int v))))
      (λ name.
      goes_nearer code m within
      (λ v. ask_only (Q.Data name (W.Int v)))
      (λ v rest. only_nearer code m (Q.Data name (W.Int v)) (with_operands m rest) refl))
  act_nearer f mark (I.DataList n s count) free follow =
      named_nearer code m within
      n
      (λ name. on_some (array_at m.top.slots s count) (λ items. ask_only (Q.Data name (W.List items)) m))
      (λ name.
      some_any
      (IsNearer code m)
      (array_at m.top.slots s count)
      (λ items. ask_only (Q.Data name (W.List items)) m)
      tt
      (λ items. only_nearer code m (Q.Data name (W.List items)) m refl))
  act_nearer f mark (I.Fill s n) free follow =
      by_weight code m within
      (I.Fill s n)
      free
      (goes_light code m within
      (λ v m'. on_some (array_at m'.top.slots s n) (λ old. next (with_slots m' (with_array m'.top.slots s (replicate n v)))))
      (λ v rest.
      some_any
      (Light code m within)
      (array_at m.top.slots s n)
      (λ old. next (with_slots (with_operands m rest) (with_array m.top.slots s (replicate n v))))
      tt
      (λ old.
      next_lighter
      code
      m.units
      (second_number code m)
      (with_slots (with_operands m rest) (with_array m.top.slots s (replicate n v)))
      refl
      within
      (le_refl _))))
