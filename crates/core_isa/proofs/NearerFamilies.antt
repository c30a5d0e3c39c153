-- The families of instructions, each of which brings the run nearer to its end.
use Rattle.std.proofs.Common.{◌≡◌, ℕ, ◌+◌, ◌*◌, ◌<◌, ◌≤◌, ◌⊎◌, inl, inr, List, [], ◌∷◌, length, Bool, true, false, Option, Some, None, refl, ap, arith, le_refl}
use Rattle.std.specs.Prelude.{ℤ, pos, slice_get, slice_set, sum_by, nat_lt, nat_le, if◌then◌else◌}
use Rattle.std.proofs.lemmas.Bool.{cases_lt}
use Rattle.rtio_types.specs.declared.event.Event.{Event}
use Rattle.rtio_types.specs.declared.outcome.Exc.{Exc}
use Rattle.rtio_types.specs.declared.outcome.Exc.TheVariants.{ZeroDivisionError, IndexError, StackOverflow}
use Rattle.rtio_types.specs.declared.request.Request.TheVariants as Q
use Rattle.core_isa.specs.declared.code.Code.{Code}
use Rattle.core_isa.specs.declared.code.CodeFunction.{CodeFunction}
use Rattle.core_isa.specs.declared.instr.Instr.{Instr}
use Rattle.core_isa.specs.Machine.{HandlerPoint, Frame, OpenRecording, Machine, Next, goes, with_top, with_operands, with_slots, at_place, next, push, ask_then}
use Rattle.core_isa.specs.Marks.{BackTakesUnit, takes_unit_first}
use Rattle.core_isa.specs.Falling.{free_step, weight, frame_weight, second_number}
use Rattle.core_isa.specs.Steps.{on_one, on_two, on_some, push_or_raise, index_in, store_slot, index_or_raise, load_at, store_at, submit_or_collect, event_at, output, open_recording, save_request, save_recording, enter_if, call_if, call, leave, return_from, end_try, handler_at, begin_try, named, act}
use Rattle.core_isa.proofs.Weights.{weighs_some, weighs_no_more, weighs_a_third, handlers-cons, callers-cons, IsLighter, HasUnits, IsNearer, nearer_by_weight}
use Rattle.core_isa.proofs.Lighter.{first_any, two_any, some_any, next_lighter, raise_lighter, raise_has, unit_nearer, ask_has}

module _ (code : Code) (m : Machine) (within : m.top.place < length code.lines) where
  -- less weight than before, with the units as before
  abbrev pub Light : Next → Type 0
  Light = IsLighter code m.units (second_number code m)

  -- a result or an exception
  pub result_light : (x : Exc) (o : Option ℤ) (rest : List ℤ) → Light (push_or_raise x o (with_operands m rest))
  result_light x None rest =
      raise_lighter code m.units (second_number code m) x (with_operands m rest) refl (le_refl _)
  result_light x (Some v) rest =
      next_lighter code m.units (second_number code m) (with_operands m (v ∷ rest)) refl within (le_refl _)

  pub two_light : (f : ℤ → ℤ → ℤ) → Light (on_two m (λ a b. push (f a b)))
  two_light f =
      two_any
      Light
      (λ a b. push (f a b))
      m
      tt
      (λ a b rest. next_lighter code m.units (second_number code m) (with_operands m (f a b ∷ rest)) refl within (le_refl _))

  pub divides_light : (f : ℤ → ℤ → Option ℤ) → Light (on_two m (λ a b. push_or_raise ZeroDivisionError (f a b)))
  divides_light f =
      two_any
      Light
      (λ a b. push_or_raise ZeroDivisionError (f a b))
      m
      tt
      (λ a b rest. result_light ZeroDivisionError (f a b) rest)

  pub one_light : (f : ℤ → ℤ) → Light (on_one m (λ a. push (f a)))
  one_light f =
      first_any
      Light
      m.top.operands
      (λ a. push (f a))
      m
      tt
      (λ a rest. next_lighter code m.units (second_number code m) (with_operands m (f a ∷ rest)) refl within (le_refl _))

  pub push_light : (v : ℤ) → Light (push v m)
  push_light v =
      next_lighter code m.units (second_number code m) (with_operands m (v ∷ m.top.operands)) refl within (le_refl _)

  pub store_light : (s : ℕ) (v : ℤ) (rest : List ℤ) → Light (store_slot s v (with_operands m rest))
  store_light s v rest =
      some_any
      Light
      (slice_get m.top.slots s)
      (λ old. next (with_slots (with_operands m rest) (slice_set m.top.slots s v)))
      tt
      (λ old.
      next_lighter
      code
      m.units
      (second_number code m)
      (with_slots (with_operands m rest) (slice_set m.top.slots s v))
      refl
      within
      (le_refl _))

  pub index_light : (o : Option ℕ) (go : ℕ → Next) (rest : List ℤ) → ((k : ℕ) → Light (go k)) → Light (index_or_raise o go (with_operands m rest))
  index_light None go rest on =
      raise_lighter code m.units (second_number code m) IndexError (with_operands m rest) refl (le_refl _)
  index_light (Some k) go rest on = on k

  pub load_at_light : (s n : ℕ) → Light (on_one m (load_at s n))
  load_at_light s n =
      first_any
      Light
      m.top.operands
      (load_at s n)
      m
      tt
      (λ i rest.
      index_light
      (index_in n i)
      (λ k. on_some (slice_get m.top.slots (s + k)) (λ v. push v (with_operands m rest)))
      rest
      (λ k.
      some_any
      Light
      (slice_get m.top.slots (s + k))
      (λ v. push v (with_operands m rest))
      tt
      (λ v. next_lighter code m.units (second_number code m) (with_operands m (v ∷ rest)) refl within (le_refl _))))

  pub store_at_light : (s n : ℕ) → Light (on_two m (store_at s n))
  store_at_light s n =
      two_any
      Light
      (store_at s n)
      m
      tt
      (λ v i rest.
      index_light
      (index_in n i)
      (λ k. store_slot (s + k) v (with_operands m rest))
      rest
      (λ k. store_light (s + k) v rest))

  -- a caller goes on behind its call
  pub behind_light : (caller : Frame) (callers : List Frame) (operands : List ℤ) → m.callers ≡ caller ∷ callers → Light (next (record m { top = record caller { operands = operands }; callers = callers }))
  behind_light caller callers operands is = (
    refl,
    (let less : weight code (caller.place + 1) ≤ weight code caller.place = weighs_no_more code caller.place (caller.place + 1) (omega arith) in
        let some : 1 ≤ weight code m.top.place = weighs_some code m.top.place in
        let one : sum_by (frame_weight code) (caller ∷ callers) ≡ frame_weight code caller + sum_by (frame_weight code) callers =
        callers-cons code caller callers
        in
        let all : sum_by (frame_weight code) m.callers ≡ sum_by (frame_weight code) (caller ∷ callers) =
        ap (sum_by (frame_weight code)) is
        in
        omega arith),
  )

  pub return_light : (b : Bool) → Light (return_from b m)
  return_light false = by_callers m.callers refl
    where
      by_callers : (callers : List Frame) → m.callers ≡ callers → Light (leave callers next m)
      by_callers [] is = tt
      by_callers (caller ∷ callers) is = behind_light caller callers caller.operands is
  return_light true =
      first_any Light m.top.operands (λ v m'. leave m'.callers (push v) m') m tt (λ v rest. by_callers v rest m.callers refl)
    where
      by_callers : (v : ℤ) (rest : List ℤ) (callers : List Frame) → m.callers ≡ callers → Light (leave callers (push v) (with_operands m rest))
      by_callers v rest [] is = tt
      by_callers v rest (caller ∷ callers) is = behind_light caller callers (v ∷ caller.operands) is

  -- a jump forward, or back to where a unit is taken
  pub jump_nearer : (p : ℕ) (rest : List ℤ) → takes_unit_first (slice_get code.lines m.top.place) ≡ false → BackTakesUnit code m.top.place p → IsNearer code m (goes (at_place (with_operands m rest) p))
  jump_nearer p rest free back = by_order (cases_lt m.top.place p)
    where
      here : free_step code m.top.place ≡ 1
      here = ap (λ b. if b then 0 else 1) free

      by_order : (m.top.place < p) ⊎ (p ≤ m.top.place) → IsNearer code m (goes (at_place (with_operands m rest) p))
      by_order (inl forward) =
          nearer_by_weight
          code
          m
          (goes (at_place (with_operands m rest) p))
          free (
            refl,
            (let third : 3 * weight code (m.top.place + 1) ≡ weight code m.top.place = weighs_a_third code m.top.place within in
                let some : 1 ≤ weight code (m.top.place + 1) = weighs_some code (m.top.place + 1) in
                let less : weight code p ≤ weight code (m.top.place + 1) = weighs_no_more code (m.top.place + 1) p (omega arith) in
                omega arith),
          )
      by_order (inr backward) =
          inl
          (let none : free_step code p ≡ 0 = ap (λ b. if b then 0 else 1) (back backward) in
          omega (arith, here))

  pub try_light : (p : ℕ) → m.top.place < p → Light (begin_try p m)
  try_light p forward = (
    refl,
    (let third : 3 * weight code (m.top.place + 1) ≡ weight code m.top.place = weighs_a_third code m.top.place within in
        let some : 1 ≤ weight code (m.top.place + 1) = weighs_some code (m.top.place + 1) in
        let less : weight code p ≤ weight code (m.top.place + 1) = weighs_no_more code (m.top.place + 1) p (omega arith) in
        let one : sum_by (λ h. weight code h.place) (handler_at p m ∷ m.top.handlers) ≡ weight code p + sum_by (λ h. weight code h.place) m.top.handlers =
        handlers-cons code (handler_at p m) m.top.handlers
        in
        omega arith),
  )

  pub end_try_light : (handlers : List HandlerPoint) → m.top.handlers ≡ handlers → Light (end_try handlers m)
  end_try_light [] is = tt
  end_try_light (handler ∷ rest) is =
      next_lighter
      code
      m.units
      (second_number code m)
      (with_top m (record m.top { handlers = rest }))
      refl
      within
      (let one : sum_by (λ h. weight code h.place) (handler ∷ rest) ≡ weight code handler.place + sum_by (λ h. weight code h.place) rest =
      handlers-cons code handler rest
      in
      let all : sum_by (λ h. weight code h.place) m.top.handlers ≡ sum_by (λ h. weight code h.place) (handler ∷ rest) =
      ap (sum_by (λ h. weight code h.place)) is
      in
      omega arith)

  -- an output takes a unit
  pub output_nearer : (channel address : ℕ) (v : ℤ) (rest : List ℤ) → IsNearer code m (output channel address v (with_operands m rest))
  output_nearer channel address v rest =
      unit_nearer
      code
      m
      (submit_or_collect m.recording (event_at m.cursor channel address v))
      (with_operands m rest)
      refl
      (λ left. by_recording left m.recording)
    where
      event : Event
      event = event_at m.cursor channel address v

      by_recording : (left : ℕ) (recording : Option OpenRecording) → HasUnits left (submit_or_collect recording event (record (with_operands m rest) { units = left }))
      by_recording left None =
          ask_has
          left
          (Q.Out event)
          (λ reply. next)
          (record (with_operands m rest) { units = left })
          (le_refl left)
          (λ reply replies. le_refl left)
      by_recording left (Some open_one) = le_refl left

  pub save_nearer : (recording : Option OpenRecording) → IsNearer code m (save_recording recording m)
  save_nearer None = tt
  save_nearer (Some open_one) =
      unit_nearer
      code
      m
      (λ m'.
      ask_then
      (save_request open_one m.cursor)
      (λ reply. next)
      (record m' { cursor = open_one.saved; recording = None }))
      m
      refl
      (λ left.
      ask_has
      left
      (save_request open_one m.cursor)
      (λ reply. next)
      (record m { units = left; cursor = open_one.saved; recording = None })
      (le_refl left)
      (λ reply replies. le_refl left))

  pub call_nearer : (called : CodeFunction) → IsNearer code m (call called m)
  call_nearer called =
      unit_nearer
      code
      m
      (λ m'. call_if (nat_lt (length m'.callers + 1) 64) called m')
      m
      refl
      (λ left. by_room left (nat_lt (length m.callers + 1) 64))
    where
      by_arguments : (left : ℕ) (b : Bool) → HasUnits left (enter_if b called (record m { units = left }))
      by_arguments left true = le_refl left
      by_arguments left false = tt

      by_room : (left : ℕ) (room : Bool) → HasUnits left (call_if room called (record m { units = left }))
      by_room left false = raise_has left StackOverflow (record m { units = left }) (le_refl left)
      by_room left true = by_arguments left (nat_le called.params (length m.top.operands))

  pub open_light : (recording : Option OpenRecording) (name : List ℕ) → Light (open_recording recording name m)
  open_light (Some open_one) name = tt
  open_light None name =
      next_lighter
      code
      m.units
      (second_number code m)
      (record m {
        cursor = pos 0;
        recording = Some (record { name = name; saved = m.cursor; events = []; callers = length m.callers });
      })
      refl
      within
      (le_refl _)

  -- an operand goes, and what the machine does with it is light
  pub goes_light : (go : ℤ → Machine → Next) → ((a : ℤ) (rest : List ℤ) → Light (go a (with_operands m rest))) → Light (on_one m go)
  goes_light go on = first_any Light m.top.operands go m tt on

  pub goes_nearer : (go : ℤ → Machine → Next) → ((a : ℤ) (rest : List ℤ) → IsNearer code m (go a (with_operands m rest))) → IsNearer code m (on_one m go)
  goes_nearer go on = first_any (IsNearer code m) m.top.operands go m tt on

  -- an instruction that a name belongs to
  pub named_nearer : (n : ℕ) (go : List ℕ → Next) → ((name : List ℕ) → IsNearer code m (go name)) → IsNearer code m (named code n go)
  named_nearer n go on = some_any (IsNearer code m) (slice_get code.names n) go tt on

  -- an instruction that takes no unit
  pub by_weight : (i : Instr) → takes_unit_first (slice_get code.lines m.top.place) ≡ false → Light (act code i m) → IsNearer code m (act code i m)
  by_weight i free light = nearer_by_weight code m (act code i m) free light
