-- Two numbers that show that every run of marked code ends: at
-- each step the first falls, or it stays and the second falls.
use Rattle.std.specs.Prelude.{◌≡◌, ℕ, ◌+◌, ◌-◌, ◌*◌, ◌^◌, ◌<◌, ◌⊎◌, List}
use Rattle.std.specs.Prelude.{length, ℤ, sum_by, if◌then◌else◌, slice_get, Some}
use Rattle.rtio_types.specs.declared.request.Reply.{Reply}
use Rattle.core_isa.specs.declared.code.Code.{Code}
use Rattle.core_isa.specs.declared.code.CodeFunction.{CodeFunction}
use Rattle.core_isa.specs.Machine.{Frame, Machine, goes}
use Rattle.core_isa.specs.Marks.{takes_unit_first}
use Rattle.core_isa.specs.Runs.{Ran, Runs, step}

-- 0 at an instruction that takes a unit before anything else, a Turn or an Edge; else 1
abbrev pub free_step : Code → ℕ → ℕ
free_step code place = if takes_unit_first (slice_get code.lines place) then 0 else 1

-- twice the units left, and the free step
abbrev pub first_number : Code → Machine → ℕ
first_number code m = 2 * m.units + free_step code m.top.place

-- a later place weighs less than a third
abbrev pub weight : Code → ℕ → ℕ
weight code place = 3 ^ (length code.lines - place)

-- the places of a frame and of its handlers
abbrev pub frame_weight : Code → Frame → ℕ
frame_weight code frame = weight code frame.place + sum_by (λ handler. weight code handler.place) frame.handlers

-- those of all frames
abbrev pub second_number : Code → Machine → ℕ
second_number code m = frame_weight code m.top + sum_by (frame_weight code) m.callers

-- one of the two numbers falls, and the first doesn't rise
abbrev pub Falls : Code → (before now : Machine) → Type 0
Falls code before now =
    (first_number code now < first_number code before)
    ⊎ ((first_number code now ≡ first_number code before) × (second_number code now < second_number code before))

-- that holds of each step
abbrev pub StepsFall : Code → Type 0
StepsFall code = (before now : Machine) → step code before ≡ goes now → Falls code before now

-- every run of a function of the code, with as many arguments as parameters, comes to an end
abbrev pub RunsEnd : Code → Type 0
RunsEnd code =
    (function : ℕ) (f : CodeFunction)
    → slice_get code.functions function ≡ Some f
    → (args : List ℤ)
    → length args ≡ f.params
    → (cursor : ℤ) (units : ℕ) (replies : List Reply)
    → (ran : Ran) × Runs code function args cursor units replies ran

-- and to one end only
abbrev pub HasOneRun : Code → Type 0
HasOneRun code =
    (function : ℕ) (args : List ℤ) (cursor : ℤ) (units : ℕ) (replies : List Reply) (a b : Ran)
    → Runs code function args cursor units replies a
    → Runs code function args cursor units replies b
    → a ≡ b
