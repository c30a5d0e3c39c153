-- What the frames are once a function is entered.
use Rattle.std.proofs.Common.{◌≡◌, ℕ, ◌-◌, ◌≤◌, List, [], ◌∷◌, ◌++◌, length, take, drop, reverse, replicate, sym, ◌∙◌, ap, arith}
use Rattle.std.specs.Prelude.{ℤ, pos, All}
use Rattle.std.proofs.lemmas.List.{length-take, length-map, length-reverse, take-take}
use Rattle.std.proofs.lemmas.List.Elements.{All-nil, All-cons}
use Rattle.core_isa.specs.Steps.{enter, without_arguments}
use Rattle.core_isa.specs.declared.code.CodeFunction.{CodeFunction}
use Rattle.core_cpu.specs.Layout.{point_of, frame_of, frames_of, IsWithin, AreWithin, IsFrameHeld}
use Rattle.core_cpu.specs.declared.layout.Activation.{Activation}
use Rattle.core_cpu.specs.declared.layout.Handler.{Handler}
use Rattle.core_cpu.proofs.Pieces.{fresh_front, fresh_behind, shorter_front, behind_shorter}

-- the slots, once the arguments are moved over the zeros
abbrev pub entered_slots : CodeFunction → (slots operands : List ℤ) → List ℤ
entered_slots f slots operands = reverse (take f.params operands) ++ (replicate (f.slots - f.params) (pos 0) ++ slots)

-- they are the arguments, and zeros
pub entered_front : (f : CodeFunction) (height : ℕ) (slots operands : List ℤ)
    → f.params ≤ length (take height operands)
    → f.params ≤ f.slots
    → take f.slots (entered_slots f slots operands) ≡ (enter f (reverse (take f.params (take height operands)))).slots
entered_front f height slots operands there fits =
    let short : f.params ≤ height = omega (arith, length-take height operands) in
    let args : List ℤ = reverse (take f.params operands) in
    let count : length args ≡ f.params = length-reverse (take f.params operands) ∙ omega (arith, length-take height operands, length-take f.params operands) in
    let same : take f.params (take height operands) ≡ take f.params operands = take-take f.params height operands short in
    ap (λ k. take f.slots (args ++ (replicate (f.slots - k) (pos 0) ++ slots))) (sym count)
    ∙ fresh_front f.slots args slots (pos 0) (omega arith)
    ∙ ap (λ l. reverse l ++ replicate (f.slots - length (reverse l)) (pos 0)) (sym same)

-- and behind them are those of the callers
entered_behind : (f : CodeFunction) (slots operands : List ℤ) → f.params ≤ length operands → f.params ≤ f.slots
    → drop f.slots (entered_slots f slots operands) ≡ slots
entered_behind f slots operands there fits =
    let args : List ℤ = reverse (take f.params operands) in
    let count : length args ≡ f.params = length-reverse (take f.params operands) ∙ omega (arith, length-take f.params operands) in
    ap (λ k. drop f.slots (args ++ (replicate (f.slots - k) (pos 0) ++ slots))) (sym count)
    ∙ fresh_behind f.slots args slots (pos 0) (omega arith)

-- the frames that wait
pub entered_callers : (f : CodeFunction) (here : Activation) (callers : List Activation) (slots operands : List ℤ) (handlers : List Handler)
    → f.params ≤ length (take here.height operands)
    → f.params ≤ f.slots
    → frames_of (record here { height = here.height - f.params } ∷ callers) (drop f.slots (entered_slots f slots operands)) (drop f.params operands) handlers
    ≡ without_arguments f (frame_of here slots operands handlers)
    ∷ frames_of callers (drop here.function.slots slots) (drop here.height operands) (drop here.tries handlers)
entered_callers f here callers slots operands handlers there fits =
    let short : f.params ≤ here.height = omega (arith, length-take here.height operands) in
    let waits : Activation = record here { height = here.height - f.params } in
    ap
    (λ l. frames_of (waits ∷ callers) l (drop f.params operands) handlers)
    (entered_behind f slots operands (omega (arith, length-take here.height operands)) fits)
    ∙ ap
    (λ l.
    record (frame_of here slots operands handlers) { operands = l }
    ∷ frames_of callers (drop here.function.slots slots) (drop (here.height - f.params) (drop f.params operands)) (drop here.tries handlers))
    (shorter_front here.height f.params operands short)
    ∙ ap
    (λ l.
    without_arguments f (frame_of here slots operands handlers)
    ∷ frames_of callers (drop here.function.slots slots) l (drop here.tries handlers))
    (behind_shorter here.height f.params operands short)

-- a frame that lies within the bounds
pub held_frame : (width : ℕ) (a : Activation) (slots operands : List ℤ) (handlers : List Handler) → IsWithin width a
    → IsFrameHeld width (frame_of a slots operands handlers)
held_frame width a slots operands handlers within = record {
  slots = omega (arith, length-take a.function.slots slots, within.slots);
  operands = omega (arith, length-take a.height operands, within.operands);
  handlers = omega (arith, length-map (take a.tries handlers) point_of, length-take a.tries handlers, within.handlers);
}

-- all frames do
pub held_frames : (width : ℕ) (frames : List Activation) (slots operands : List ℤ) (handlers : List Handler) → AreWithin width frames
    → All (IsFrameHeld width) (frames_of frames slots operands handlers)
held_frames width [] slots operands handlers within = All-nil (IsFrameHeld width)
held_frames width (a ∷ rest) slots operands handlers within =
    All-cons
    (IsFrameHeld width)
    (frame_of a slots operands handlers)
    (frames_of rest (drop a.function.slots slots) (drop a.height operands) (drop a.tries handlers))
    (held_frame width a slots operands handlers within.0)
    (held_frames width rest (drop a.function.slots slots) (drop a.height operands) (drop a.tries handlers) within.1)
