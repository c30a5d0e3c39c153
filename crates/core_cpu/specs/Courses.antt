-- What instructions lead to, and what they find.
use Rattle.std.specs.Prelude.{◌≡◌, ℕ, ◌+◌, ◌-◌, ◌≤◌, ◌<◌, ◌^◌, List, length, Option, Some, None, slice_get}
use Rattle.std.specs.List.{All}
use Rattle.rtio_types.specs.declared.outcome.Outcome.TheVariants as O
use Rattle.rtio_types.specs.declared.request.Reply.{Reply}
use Rattle.rtio_types.specs.declared.request.Request.{Request}
use Rattle.core_image.specs.Ranges.{IsInRange}
use Rattle.core_isa.specs.Machine.{Machine, returned, raised, budget, Next, goes, ends, ask_then}
use Rattle.core_isa.specs.Marks.{Marked, HasOrder}
use Rattle.core_isa.specs.Sound.{IsSound}
use Rattle.core_isa.specs.declared.code.Code.{Code}
use Rattle.core_isa.specs.declared.code.Mark.{Mark}
use Rattle.core_isa.specs.declared.instr.Instr.{Instr}
use Rattle.core_cpu.specs.Layout.{Held}
use Rattle.core_cpu.specs.Moments.{take_reply, with_history}
use Rattle.core_cpu.specs.declared.course.Course.{Course}
use Rattle.core_cpu.specs.declared.course.Course.TheVariants.{Silent, Asks}
use Rattle.core_cpu.specs.declared.course.Way.{Way}
use Rattle.core_cpu.specs.declared.course.Way.TheVariants.{Goes, Returned, Raised, Spent}
use Rattle.core_cpu.specs.declared.phase.Phase.{Phase}
use Rattle.core_cpu.specs.declared.phase.Phase.TheVariants.{Ready, Asking, Over}

-- what comes next where nothing is asked
abbrev pub phase_after : Way → Phase
phase_after Goes = Ready
phase_after Returned = Over O.Returned
phase_after (Raised x) = Over (O.Raised x)
phase_after Spent = Over O.Budget

-- what comes next on a course
abbrev pub phase_of : Course → Phase
phase_of (Silent way) = phase_after way
phase_of (Asks purpose request) = Asking purpose

-- the request that it asks
abbrev pub asks_of : Course → Option Request
asks_of (Silent way) = None
asks_of (Asks purpose request) = Some request

-- where it leads the machine
abbrev pub along : Course → Machine → Next
along (Silent Goes) m = goes m
along (Silent Returned) m = ends returned m
along (Silent (Raised x)) m = ends (raised x) m
along (Silent Spent) m = ends budget m
along (Asks purpose request) m = ask_then request (take_reply purpose) m

-- a machine that asks stands at its place, and no recording is open
abbrev pub WaitsAt : Course → (place : ℕ) → Machine → Type 0
WaitsAt (Asks purpose request) place m = (m.recording ≡ None) × (m.top.place ≡ place)
WaitsAt course place m = Unit {0}

-- what is done to a machine leads along this course to another machine, whatever was asked and is answered
pub record TurnsTo (does : Machine → Next) (old : Held) (course : Course) (new : Held) : Type 0 where
  pub leads : (more : List Reply) (before : List Request) → does (with_history old.machine more before) ≡ along course (with_history new.machine more before)
  pub waits : WaitsAt course old.machine.top.place new.machine
  pub width : new.width ≡ old.width

-- an instruction finds so many operands, and there is room for those that it leaves and a next place
pub record Fits (taken given : ℕ) (held : Held) : Type 0 where
  pub enough : taken ≤ length held.machine.top.operands
  pub room : length held.machine.top.operands - taken + given ≤ 255
  pub tall : length held.machine.top.operands ≤ 255
  pub place : held.machine.top.place + 1 < 2 ^ 32

-- the instruction is the one at the place of a machine of accepted code
pub record CanRun (code : Code) (held : Held) (instr : Instr) : Type 0 where
  pub in_range : IsInRange code
  pub order : HasOrder code
  pub marked : Marked code
  pub sound : IsSound code held.machine
  pub mark : Mark
  pub found : slice_get code.lines held.machine.top.place ≡ Some (record { instr = instr; mark = mark })
  pub room : All (λ f. f.slots ≤ held.width) code.functions
