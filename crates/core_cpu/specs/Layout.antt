-- How the frames of the machine lie in stacks, the last one on top.
use Rattle.std.specs.Prelude.{◌≡◌, ℕ, ◌+◌, ◌*◌, ◌≤◌, Bool, true, false, List, [], ◌∷◌, ◌++◌, length, take, drop, map, ℤ}
use Rattle.std.specs.List.{All, sum_by}
use Rattle.rtio_types.specs.declared.event.Event.{Event}
use Rattle.rtio_types.specs.declared.outcome.Exc.{Exc}
use Rattle.core_isa.specs.Machine.{HandlerPoint, Frame, OpenRecording, Machine, Next, goes, ends, raised}
use Rattle.core_cpu.specs.declared.layout.Activation.{Activation}
use Rattle.core_cpu.specs.declared.layout.Handler.{Handler}
use Rattle.core_cpu.specs.declared.layout.OpenBlock.{OpenBlock}

-- the machine, and how many slots a frame may have
pub record Held : Type 0 where
  pub machine : Machine
  pub width : ℕ

-- a handler is added where no operands are
abbrev pub point_of : Handler → HandlerPoint
point_of handler = record { place = handler.place; height = 0; recording = handler.recording }

-- the frame on top of the stacks
abbrev pub frame_of : Activation → (slots operands : List ℤ) → List Handler → Frame
frame_of a slots operands handlers =
    record {
      function = a.function;
      place = a.place;
      slots = take a.function.slots slots;
      operands = take a.height operands;
      handlers = map point_of (take a.tries handlers);
    }

-- all frames of the stacks
abbrev pub frames_of : List Activation → (slots operands : List ℤ) → List Handler → List Frame
frames_of [] slots operands handlers = []
frames_of (a ∷ rest) slots operands handlers =
    frame_of a slots operands handlers
    ∷ frames_of rest (drop a.function.slots slots) (drop a.height operands) (drop a.tries handlers)

-- an open recording
abbrev pub opened : OpenBlock → OpenRecording
opened block =
    record { name = block.name; saved = block.saved; events = block.events.items; callers = block.callers }

-- a frame has at most so many slots, and 255 operands and handlers
pub record IsWithin (width : ℕ) (a : Activation) : Type 0 where
  pub slots : a.function.slots ≤ width
  pub operands : a.height ≤ 255
  pub handlers : a.tries ≤ 255

-- each frame does
abbrev pub AreWithin : ℕ → List Activation → Type 0
AreWithin width [] = Unit {0}
AreWithin width (a ∷ rest) = IsWithin width a × AreWithin width rest

-- the stacks hold just what the frames have, and there is room for 64 frames
pub record IsLaidOut (width : ℕ) (frames : List Activation) (slots operands : List ℤ × ℕ) (handlers : List Handler × ℕ) : Type 0 where
  pub within : AreWithin width frames
  pub slots_held : length slots.0 ≡ sum_by (λ a. a.function.slots) frames
  pub operands_held : length operands.0 ≡ sum_by (λ a. a.height) frames
  pub handlers_held : length handlers.0 ≡ sum_by (λ a. a.tries) frames
  pub slots_room : slots.1 + length slots.0 ≡ 64 * width
  pub operands_room : operands.1 + length operands.0 ≡ 64 * 255
  pub handlers_room : handlers.1 + length handlers.0 ≡ 64 * 255

-- a frame of the machine has at most so many slots, and 255 operands and handlers
pub record IsFrameHeld (width : ℕ) (frame : Frame) : Type 0 where
  pub slots : length frame.slots ≤ width
  pub operands : length frame.operands ≤ 255
  pub handlers : length frame.handlers ≤ 255

-- there are at most 64 frames, and each is held
pub record IsHeld (held : Held) : Type 0 where
  pub few : length held.machine.callers ≤ 63
  pub top : IsFrameHeld held.width held.machine.top
  pub callers : All (IsFrameHeld held.width) held.machine.callers

-- an open recording with one output more
abbrev pub with_event : Event → OpenRecording → OpenRecording
with_event event block = record block { events = block.events ++ event ∷ [] }

-- where a handler takes an exception, the machine goes on; else it ends with it
abbrev pub raised_to : (taken : Bool) → Exc → Machine → Next
raised_to true x m = goes m
raised_to false x m = ends (raised x) m
