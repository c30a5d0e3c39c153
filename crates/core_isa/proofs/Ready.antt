-- A sound state on its way to the next place: what holds whatever the top frame's place and operands are.
use Rattle.std.proofs.Common.{ℕ, suc, zero, ◌+◌, List, ◌∷◌, length, Option, subst, add-one}
use Rattle.std.specs.Prelude.{ℤ}
use Rattle.core_isa.specs.declared.code.Code.{Code}
use Rattle.core_isa.specs.declared.code.CodeFunction.{CodeFunction}
use Rattle.core_isa.specs.Machine.{HandlerPoint, Frame, OpenRecording, Machine, Next, goes, with_operands, at_place, next, push, opened_by, unit_of, unit_then}
use Rattle.core_isa.specs.Sound.{opened_below, IsOpenedWithin, StandsAt, FrameKeeps, CallersFit, StaysSound}

-- the parts of a state that a place and operands don't touch
pub record Ready (code : Code) (index rec : ℕ) (recording : Option OpenRecording) (callers : List Frame) (f : CodeFunction) (slots : ℕ) (handlers : List HandlerPoint) : Type 0 where
  pub keeps : FrameKeeps code index rec (opened_by (length callers) recording) (opened_below (length callers) recording) f slots handlers
  pub waiting : CallersFit code recording f callers
  pub within : IsOpenedWithin (length callers) recording

-- those of a state
abbrev pub IsReady : Code → ℕ → ℕ → Machine → Type 0
IsReady code index rec m =
    Ready code index rec m.recording m.callers m.top.function (length m.top.slots) m.top.handlers

-- a state that stands at a place of its function is sound
pub goes_sound : (code : Code) (index rec : ℕ) (m : Machine)
    → IsReady code index rec m
    → StandsAt code index m.top.place (length m.top.operands) (length m.top.handlers) rec
    → StaysSound code (goes m)
goes_sound code index rec m ready stands =
    record {
      top = record { index = index; rec = rec; keeps = ready.keeps; stands = stands };
      callers = ready.waiting;
      within = ready.within;
    }

-- so is one that goes on at the next place
pub next_sound : (code : Code) (index rec : ℕ) (m : Machine)
    → IsReady code index rec m
    → StandsAt code index (m.top.place + 1) (length m.top.operands) (length m.top.handlers) rec
    → StaysSound code (next m)
next_sound code index rec m ready stands = goes_sound code index rec (at_place m (m.top.place + 1)) ready stands

-- so is one that goes on with one operand more
pub push_sound : (code : Code) (index rec : ℕ) (v : ℤ) (m : Machine)
    → IsReady code index rec m
    → StandsAt code index (m.top.place + 1) (length m.top.operands + 1) (length m.top.handlers) rec
    → StaysSound code (push v m)
push_sound code index rec v m ready stands =
    next_sound
    code
    index
    rec
    (with_operands m (v ∷ m.top.operands))
    ready
    (subst (λ h. StandsAt code index (m.top.place + 1) h (length m.top.handlers) rec) (add-one (length m.top.operands)) stands)

-- a unit is taken, or the run ends
pub unit_sound : (code : Code) (go : Machine → Next) (m : Machine)
    → ((left : ℕ) → StaysSound code (go (record m { units = left })))
    → StaysSound code (unit_then go m)
unit_sound code go m on = by_units m.units
  where
    by_units : (n : ℕ) → StaysSound code (unit_of n go m)
    by_units zero = tt
    by_units (suc left) = on left
