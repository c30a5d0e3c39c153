-- Runs of code.
use Rattle.std.specs.Prelude.{◌≡◌, ℕ, zero, suc, ◌+◌, ◌-◌, ◌^◌, min, List, [], ℤ, slice_get, Option, Some, None}
use Rattle.rtio_types.specs.declared.request.Request.{Request}
use Rattle.rtio_types.specs.declared.request.Reply.{Reply}
use Rattle.core_isa.specs.declared.code.Code.{Code}
use Rattle.core_isa.specs.declared.code.CodeFunction.{CodeFunction}
use Rattle.core_isa.specs.declared.code.CodeLine.{CodeLine}
use Rattle.core_isa.specs.Machine.{Machine, MachineEnd, Next, goes, ends, stuck}
use Rattle.core_isa.specs.Steps.{act, enter}

-- the count of instructions stands still at the greatest number of 64 bits
abbrev pub counted : Machine → Machine
counted m = record m { steps = min (m.steps + 1) (2 ^ 64 - 1) }

-- one step by the line at the machine's place, if there is one
abbrev pub step_by : Code → Option CodeLine → Machine → Next
step_by code None m = stuck
step_by code (Some line) m = act code line.instr (counted m)

-- one step: the instruction at the place of the frame that runs
abbrev pub step : Code → Machine → Next
step code m = step_by code (slice_get code.lines m.top.place) m

-- goes on where a step leads on
abbrev pub go_on : Next → (Machine → Next) → Next
go_on (goes m) again = again m
go_on (ends reason m) again = ends reason m
go_on stuck again = stuck

-- so many steps, or fewer where the run ends or is stuck
abbrev pub steps : Code → ℕ → Machine → Next
steps code zero m = goes m
steps code (suc n) m = go_on (step code m) (steps code n)

-- what a whole run gives
pub record Ran : Type 0 where
  pub requests : List Request
  pub outcome : MachineEnd
  pub cursor : ℤ
  pub units : ℕ
  pub count : ℕ

-- the state before the first instruction of a function
abbrev pub boot : CodeFunction → (args : List ℤ) → (cursor : ℤ) (units : ℕ) → List Reply → Machine
boot f args cursor units replies =
    record { top = enter f args; callers = []; cursor = cursor; units = units; recording = None; replies = replies; asked = []; steps = 0 }

-- the end of a run as what it gives
abbrev pub Gives : Next → Ran → Type 0
Gives (goes m) ran = ⊥
Gives stuck ran = ⊥
Gives (ends outcome m) ran =
    ran ≡ record { requests = m.asked; outcome = outcome; cursor = m.cursor; units = m.units; count = m.steps }

-- a run of a function of the code under some replies ends, and gives this
pub record Runs (code : Code) (function : ℕ) (args : List ℤ) (cursor : ℤ) (units : ℕ) (replies : List Reply) (ran : Ran) : Type 0 where
  pub entry : CodeFunction
  pub found : slice_get code.functions function ≡ Some entry
  pub bound : ℕ
  pub gives : Gives (steps code bound (boot entry args cursor units replies)) ran
