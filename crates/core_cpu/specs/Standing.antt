-- At which point of which run a CPU stands.
use Rattle.std.specs.Prelude.{◌≡◌, ℕ, ◌<◌, ◌≤◌, ◌^◌, List, [], ◌∷◌, ◌++◌, length, ℤ}
use Rattle.std.specs.Prelude.{Bool, true, false, IsTrue, is_some, slice_get, Some}
use Rattle.rtio_types.specs.Requests.{is_well_formed}
use Rattle.rtio_types.specs.declared.outcome.Outcome.{Outcome}
use Rattle.rtio_types.specs.declared.request.Reply.{Reply}
use Rattle.rtio_types.specs.declared.request.Request.{Request}
use Rattle.core_isa.specs.Machine.{Machine, MachineEnd, unanswered}
use Rattle.core_isa.specs.Runs.{Runs, boot, steps}
use Rattle.core_isa.specs.WellAsked.{RepliesFit}
use Rattle.core_isa.specs.declared.code.Code.{Code}
use Rattle.core_isa.specs.declared.code.CodeFunction.{CodeFunction}
use Rattle.core_isa.specs.declared.code.CodeLine.{CodeLine}
use Rattle.core_isa.specs.declared.instr.Instr.{Instr}
use Rattle.core_isa.specs.declared.instr.Instr.TheVariants as I
use Rattle.core_cpu.specs.Moments.{Moment, resume, outcome_of}
use Rattle.core_cpu.specs.declared.phase.Phase.{Phase}
use Rattle.core_cpu.specs.declared.phase.Phase.TheVariants.{Ready, Asking, Over}
use Rattle.core_cpu.specs.declared.stop.Stop.{Stop}
use Rattle.core_cpu.specs.declared.stop.Stop.TheVariants.{Ask, Ended}

-- how a run begins
pub record Start : Type 0 where
  pub function : ℕ
  pub args : List ℤ
  pub cursor : ℤ
  pub units : ℕ

-- the function exists and has so many parameters
pub record HasEntry (code : Code) (function : ℕ) (args : List ℤ) : Type 0 where
  pub entry : CodeFunction
  pub found : slice_get code.functions function ≡ Some entry
  pub fit : length args ≡ entry.params

-- the moment is one of the run that begins so: it has made these requests and got these replies, and whatever further
-- replies it gets, it goes on from here
pub record Stands (start : Start) (asked : List Request) (replies : List Reply) (moment : Moment) : Type 0 where
  pub entry : CodeFunction
  pub found : slice_get moment.code.functions start.function ≡ Some entry
  pub units : start.units < 2 ^ 32
  pub count : ℕ
  pub leads : (more : List Reply)
      → steps moment.code count (boot entry start.args start.cursor start.units (replies ++ more)) ≡ resume moment more asked

-- the whole run under these replies gives these requests and this end, and the numbers of this machine
abbrev pub RunGives : Code → Start → List Reply → List Request → MachineEnd → Machine → Type 0
RunGives code start replies requests end m =
    Runs
    code
    start.function
    start.args
    start.cursor
    start.units
    replies
    (record { requests = requests; outcome = end; cursor = m.cursor; units = m.units; count = m.steps })

-- the run asks a request next: under the replies so far it ends with this one, unanswered. It is well formed if the
-- replies fit their requests
pub record AsksNext (start : Start) (asked : List Request) (replies : List Reply) (request : Request) (now : Moment) : Type 0 where
  pub run : RunGives now.code start replies (asked ++ request ∷ []) unanswered now.machine
  pub stands : Stands start (asked ++ request ∷ []) replies now
  pub well : RepliesFit (asked ++ request ∷ []) replies → IsTrue (is_well_formed request)

-- the run has ended with an outcome
pub record HasEnded (start : Start) (asked : List Request) (replies : List Reply) (outcome : Outcome) (now : Moment) : Type 0 where
  pub end : MachineEnd
  pub is : outcome_of end ≡ Some outcome
  pub run : RunGives now.code start replies asked end now.machine

-- the run stops so
abbrev pub StopsAt : Start → (asked : List Request) (replies : List Reply) → (now : Moment) → Stop → Type 0
StopsAt start asked replies now (Ask request) = AsksNext start asked replies request now
StopsAt start asked replies now (Ended outcome) = HasEnded start asked replies outcome now

-- after a stop a request waits, or the run is over
abbrev pub phase_fits : Stop → Phase → Bool
phase_fits (Ask request) (Asking purpose) = true
phase_fits (Ended outcome) (Over now) = true
phase_fits stop phase = false

-- an instruction that takes memory: a list for a dataset, and an output where a recording is open
abbrev pub takes_memory : (recording : Bool) → Instr → Bool
takes_memory recording (I.DataList n s count) = true
takes_memory recording (I.Out channel address) = recording
takes_memory recording (I.OutTo channel) = recording
takes_memory recording i = false

-- the moment stands before an instruction that takes memory and has a unit left
pub record WantsMemory (moment : Moment) : Type 0 where
  pub ready : moment.phase ≡ Ready
  pub line : CodeLine
  pub found : slice_get moment.code.lines moment.machine.top.place ≡ Some line
  pub takes : IsTrue (takes_memory (is_some moment.machine.recording) line.instr)
  pub units : 1 ≤ moment.machine.units
