-- What holds of every CPU.
use Rattle.std.specs.Prelude.{◌≡◌, ◌+◌, ◌<◌, ◌≤◌, ◌^◌, List, length, Some, None}
use Rattle.std.specs.List.{All}
use Rattle.rtio_types.specs.declared.request.Reply.{Reply}
use Rattle.rtio_types.specs.declared.request.Request.{Request}
use Rattle.core_image.specs.Ranges.{IsInRange}
use Rattle.core_isa.specs.Machine.{Machine}
use Rattle.core_isa.specs.Marks.{Marked}
use Rattle.core_isa.specs.Sound.{StaysSound}
use Rattle.core_isa.specs.declared.code.Code.{Code}
use Rattle.core_cpu.specs.Layout.{Held}
use Rattle.core_cpu.specs.Moments.{Moment, end_of, outcome_of, resume}
use Rattle.core_cpu.specs.declared.phase.Phase.{Phase}
use Rattle.core_cpu.specs.declared.phase.Phase.TheVariants.{Ready, Playing, Asking, Over}
use Rattle.core_cpu.specs.declared.phase.Purpose.{Purpose}
use Rattle.core_cpu.specs.declared.phase.Purpose.TheVariants.{Number}

-- the CPU as a moment
abbrev pub moment_of : Code → Held → Phase → Moment
moment_of code held phase = record { code = code; machine = held.machine; phase = phase }

-- no recording is open, and there is a next place
pub record IsClosed (m : Machine) : Type 0 where
  pub closed : m.recording ≡ None
  pub place : m.top.place + 1 < 2 ^ 32

-- so it is where a request waits or a recording is played, and an outcome is not the horizon
abbrev pub IsProper : Machine → Phase → Type 0
IsProper m Ready = Unit {0}
IsProper m (Playing left) = IsClosed m
IsProper m (Asking purpose) = IsClosed m
IsProper m (Over outcome) = outcome_of (end_of outcome) ≡ Some outcome

-- room for the number that a reply brings
abbrev pub HasRoom : Purpose → Machine → Type 0
HasRoom Number m = length m.top.operands < 255
HasRoom purpose m = Unit {0}

-- the code is accepted; whatever it is answered, the machine goes on with each frame as its mark says; and every
-- function's slots have room
pub record IsSettled (code : Code) (held : Held) (phase : Phase) : Type 0 where
  pub in_range : IsInRange code
  pub marked : Marked code
  pub sound : (replies : List Reply) → (asked : List Request) × StaysSound code (resume (moment_of code held phase) replies asked)
  pub proper : IsProper held.machine phase
  pub room : All (λ f. f.slots ≤ held.width) code.functions

-- a request may wait: the code is marked, and no recording is open
pub record CanAsk (now : Moment) : Type 0 where
  pub marked : Marked now.code
  pub closed : now.machine.recording ≡ None
