-- That there is room where a frame has some.
use Rattle.std.proofs.Common.{◌≡◌, ℕ, ◌+◌, ◌-◌, ◌*◌, ◌<◌, ◌≤◌, List, [], ◌∷◌, length, take, map, suc, arith}
use Rattle.std.specs.Prelude.{ℤ, sum_by}
use Rattle.std.proofs.lemmas.List.Sums.{sum_by-cons}
use Rattle.std.proofs.lemmas.List.{length-take-le, length-map}
use Rattle.std.proofs.Math.Nat.{suc-mul, mul-le-mul_right}
use Rattle.core_isa.specs.declared.code.CodeFunction.{CodeFunction}
use Rattle.core_cpu.specs.Layout.{point_of, AreWithin, IsLaidOut}
use Rattle.core_cpu.specs.declared.layout.Activation.{Activation}
use Rattle.core_cpu.specs.declared.layout.Handler.{Handler}

-- frames have at most 255 operands each
heights_bound : (width : ℕ) (frames : List Activation) → AreWithin width frames → sum_by (λ a. a.height) frames ≤ length frames * 255
heights_bound width [] within = omega arith
heights_bound width (a ∷ rest) within =
    let others : sum_by (λ b. b.height) rest ≤ length rest * 255 = heights_bound width rest within.1 in
    let whole : sum_by (λ b. b.height) (a ∷ rest) ≡ a.height + sum_by (λ b. b.height) rest = sum_by-cons (λ b. b.height) a rest in
    let own : a.height ≤ 255 = within.0.operands in
    omega arith

-- a frame with fewer than 255 operands has room for one more
pub room_for_one : (width : ℕ) (here : Activation) (callers : List Activation) (slots operands : List ℤ × ℕ) (handlers : List Handler × ℕ)
    → length callers ≤ 63
    → IsLaidOut width (here ∷ callers) slots operands handlers
    → length (take here.height operands.0) < 255
    → (1 ≤ operands.1) × (here.height < 255)
room_for_one width here callers slots operands handlers few laid fewer =
    let others : sum_by (λ b. b.height) callers ≤ length callers * 255 = heights_bound width callers laid.within.1 in
    let whole : sum_by (λ b. b.height) (here ∷ callers) ≡ here.height + sum_by (λ b. b.height) callers = sum_by-cons (λ b. b.height) here callers in
    let held : length operands.0 ≡ sum_by (λ b. b.height) (here ∷ callers) = laid.operands_held in
    let room : operands.1 + length operands.0 ≡ 64 * 255 = laid.operands_room in
    let taken : length (take here.height operands.0) ≡ here.height = length-take-le here.height operands.0 (omega arith) in
    (omega arith, omega arith)

-- one operand more
pub pushed : (width : ℕ) (here : Activation) (callers : List Activation) (slots operands : List ℤ × ℕ) (handlers : List Handler × ℕ) (value : ℤ)
    → here.height < 255
    → 1 ≤ operands.1
    → IsLaidOut width (here ∷ callers) slots operands handlers
    → IsLaidOut width (record here { height = here.height + 1 } ∷ callers) slots (value ∷ operands.0, operands.1 - 1) handlers
pushed width here callers slots operands handlers value fewer room laid =
    let before : sum_by (λ b. b.height) (here ∷ callers) ≡ here.height + sum_by (λ b. b.height) callers = sum_by-cons (λ b. b.height) here callers in
    let now : sum_by (λ b. b.height) (record here { height = here.height + 1 } ∷ callers) ≡ here.height + 1 + sum_by (λ b. b.height) callers =
    sum_by-cons (λ b. b.height) (record here { height = here.height + 1 }) callers
    in
    let held : length operands.0 ≡ sum_by (λ b. b.height) (here ∷ callers) = laid.operands_held in
    let all : operands.1 + length operands.0 ≡ 64 * 255 = laid.operands_room in
    record {
      within = (record { slots = laid.within.0.slots; operands = omega arith; handlers = laid.within.0.handlers }, laid.within.1);
      slots_held = laid.slots_held;
      operands_held = omega arith;
      handlers_held = laid.handlers_held;
      slots_room = laid.slots_room;
      operands_room = omega arith;
      handlers_room = laid.handlers_room;
    }

-- and at most 255 handlers each
tries_bound : (width : ℕ) (frames : List Activation) → AreWithin width frames → sum_by (λ a. a.tries) frames ≤ length frames * 255
tries_bound width [] within = omega arith
tries_bound width (a ∷ rest) within =
    let others : sum_by (λ b. b.tries) rest ≤ length rest * 255 = tries_bound width rest within.1 in
    let whole : sum_by (λ b. b.tries) (a ∷ rest) ≡ a.tries + sum_by (λ b. b.tries) rest = sum_by-cons (λ b. b.tries) a rest in
    let own : a.tries ≤ 255 = within.0.handlers in
    omega arith

-- and at most so many slots each
slots_bound : (width : ℕ) (frames : List Activation) → AreWithin width frames → sum_by (λ a. a.function.slots) frames ≤ length frames * width
slots_bound width [] within = omega arith
slots_bound width (a ∷ rest) within =
    let others : sum_by (λ b. b.function.slots) rest ≤ length rest * width = slots_bound width rest within.1 in
    let whole : sum_by (λ b. b.function.slots) (a ∷ rest) ≡ a.function.slots + sum_by (λ b. b.function.slots) rest = sum_by-cons (λ b. b.function.slots) a rest in
    let own : a.function.slots ≤ width = within.0.slots in
    let more : suc (length rest) * width ≡ length rest * width + width = suc-mul (length rest) width in
    omega arith

-- a frame with fewer than 255 handlers has room for one more
pub room_for_handler : (width : ℕ) (here : Activation) (callers : List Activation) (slots operands : List ℤ × ℕ) (handlers : List Handler × ℕ)
    → length callers ≤ 63
    → IsLaidOut width (here ∷ callers) slots operands handlers
    → length (map point_of (take here.tries handlers.0)) < 255
    → (1 ≤ handlers.1) × (here.tries < 255)
room_for_handler width here callers slots operands handlers few laid fewer =
    let others : sum_by (λ b. b.tries) callers ≤ length callers * 255 = tries_bound width callers laid.within.1 in
    let whole : sum_by (λ b. b.tries) (here ∷ callers) ≡ here.tries + sum_by (λ b. b.tries) callers = sum_by-cons (λ b. b.tries) here callers in
    let held : length handlers.0 ≡ sum_by (λ b. b.tries) (here ∷ callers) = laid.handlers_held in
    let room : handlers.1 + length handlers.0 ≡ 64 * 255 = laid.handlers_room in
    let taken : length (take here.tries handlers.0) ≡ here.tries = length-take-le here.tries handlers.0 (omega arith) in
    let seen : length (map point_of (take here.tries handlers.0)) ≡ length (take here.tries handlers.0) = length-map (take here.tries handlers.0) point_of in
    (omega arith, omega arith)

-- one handler more
pub added : (width : ℕ) (here : Activation) (callers : List Activation) (slots operands : List ℤ × ℕ) (handlers : List Handler × ℕ) (handler : Handler)
    → here.tries < 255
    → 1 ≤ handlers.1
    → IsLaidOut width (here ∷ callers) slots operands handlers
    → IsLaidOut width (record here { tries = here.tries + 1 } ∷ callers) slots operands (handler ∷ handlers.0, handlers.1 - 1)
added width here callers slots operands handlers handler fewer room laid =
    let before : sum_by (λ b. b.tries) (here ∷ callers) ≡ here.tries + sum_by (λ b. b.tries) callers = sum_by-cons (λ b. b.tries) here callers in
    let now : sum_by (λ b. b.tries) (record here { tries = here.tries + 1 } ∷ callers) ≡ here.tries + 1 + sum_by (λ b. b.tries) callers =
    sum_by-cons (λ b. b.tries) (record here { tries = here.tries + 1 }) callers
    in
    let held : length handlers.0 ≡ sum_by (λ b. b.tries) (here ∷ callers) = laid.handlers_held in
    let all : handlers.1 + length handlers.0 ≡ 64 * 255 = laid.handlers_room in
    record {
      within = (record { slots = laid.within.0.slots; operands = laid.within.0.operands; handlers = omega arith }, laid.within.1);
      slots_held = laid.slots_held;
      operands_held = laid.operands_held;
      handlers_held = omega arith;
      slots_room = laid.slots_room;
      operands_room = laid.operands_room;
      handlers_room = omega arith;
    }

-- there is room for the slots of one frame more
pub room_for_frame : (width : ℕ) (here : Activation) (callers : List Activation) (slots operands : List ℤ × ℕ) (handlers : List Handler × ℕ) (n : ℕ)
    → length callers < 63
    → IsLaidOut width (here ∷ callers) slots operands handlers
    → n ≤ width
    → n ≤ slots.1
room_for_frame width here callers slots operands handlers n few laid narrow =
    let all : sum_by (λ b. b.function.slots) (here ∷ callers) ≤ suc (length callers) * width = slots_bound width (here ∷ callers) laid.within in
    let most : suc (length callers) * width ≤ 63 * width = mul-le-mul_right width (omega arith) in
    let held : length slots.0 ≡ sum_by (λ b. b.function.slots) (here ∷ callers) = laid.slots_held in
    let room : slots.1 + length slots.0 ≡ 64 * width = laid.slots_room in
    omega arith

-- one frame more, with its arguments moved from the operands into its slots
pub entered : (width : ℕ) (here : Activation) (callers : List Activation) (slots operands : List ℤ × ℕ) (handlers : List Handler × ℕ)
    → (f : CodeFunction) (place : ℕ) (now_slots now_operands : List ℤ × ℕ)
    → f.params ≤ here.height
    → f.slots ≤ width
    → f.slots ≤ slots.1
    → length now_slots.0 ≡ f.slots + length slots.0
    → now_slots.1 + f.slots ≡ slots.1
    → length now_operands.0 + f.params ≡ length operands.0
    → now_operands.1 ≡ operands.1 + f.params
    → IsLaidOut width (here ∷ callers) slots operands handlers
    → IsLaidOut
    width
    (record { function = f; place = place; height = 0; tries = 0 } ∷ record here { height = here.height - f.params } ∷ callers)
    now_slots
    now_operands
    handlers
entered width here callers slots operands handlers f place now_slots now_operands there narrow room long left short more laid =
    let fresh : Activation = record { function = f; place = place; height = 0; tries = 0 } in
    let waits : Activation = record here { height = here.height - f.params } in
    let slots_before : sum_by (λ b. b.function.slots) (here ∷ callers) ≡ here.function.slots + sum_by (λ b. b.function.slots) callers = sum_by-cons (λ b. b.function.slots) here callers in
    let slots_waiting : sum_by (λ b. b.function.slots) (waits ∷ callers) ≡ here.function.slots + sum_by (λ b. b.function.slots) callers = sum_by-cons (λ b. b.function.slots) waits callers in
    let slots_now : sum_by (λ b. b.function.slots) (fresh ∷ waits ∷ callers) ≡ f.slots + sum_by (λ b. b.function.slots) (waits ∷ callers) = sum_by-cons (λ b. b.function.slots) fresh (waits ∷ callers) in
    let operands_before : sum_by (λ b. b.height) (here ∷ callers) ≡ here.height + sum_by (λ b. b.height) callers = sum_by-cons (λ b. b.height) here callers in
    let operands_waiting : sum_by (λ b. b.height) (waits ∷ callers) ≡ here.height - f.params + sum_by (λ b. b.height) callers = sum_by-cons (λ b. b.height) waits callers in
    let operands_now : sum_by (λ b. b.height) (fresh ∷ waits ∷ callers) ≡ 0 + sum_by (λ b. b.height) (waits ∷ callers) = sum_by-cons (λ b. b.height) fresh (waits ∷ callers) in
    let tries_before : sum_by (λ b. b.tries) (here ∷ callers) ≡ here.tries + sum_by (λ b. b.tries) callers = sum_by-cons (λ b. b.tries) here callers in
    let tries_waiting : sum_by (λ b. b.tries) (waits ∷ callers) ≡ here.tries + sum_by (λ b. b.tries) callers = sum_by-cons (λ b. b.tries) waits callers in
    let tries_now : sum_by (λ b. b.tries) (fresh ∷ waits ∷ callers) ≡ 0 + sum_by (λ b. b.tries) (waits ∷ callers) = sum_by-cons (λ b. b.tries) fresh (waits ∷ callers) in
    let slots_held : length slots.0 ≡ sum_by (λ b. b.function.slots) (here ∷ callers) = laid.slots_held in
    let operands_held : length operands.0 ≡ sum_by (λ b. b.height) (here ∷ callers) = laid.operands_held in
    let handlers_held : length handlers.0 ≡ sum_by (λ b. b.tries) (here ∷ callers) = laid.handlers_held in
    let slots_room : slots.1 + length slots.0 ≡ 64 * width = laid.slots_room in
    let operands_room : operands.1 + length operands.0 ≡ 64 * 255 = laid.operands_room in
    let few : here.height ≤ 255 = laid.within.0.operands in
    record {
      within = (
        record { slots = narrow; operands = omega arith; handlers = omega arith },
        (record { slots = laid.within.0.slots; operands = omega arith; handlers = laid.within.0.handlers }, laid.within.1),
      );
      slots_held = omega arith;
      operands_held = omega arith;
      handlers_held = omega arith;
      slots_room = omega arith;
      operands_room = omega arith;
      handlers_room = laid.handlers_room;
    }
