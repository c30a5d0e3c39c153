-- What a compiled kernel that was run leaves on a core.
use Rattle.std.specs.Prelude.{◌≡◌, ◌⊎◌, ℕ, List, ◌++◌}
use Rattle.rtio_types.specs.declared.request.Request.{Request}
use Rattle.rtio_core.specs.declared.data.Config.{Config}
use Rattle.rtio_core.specs.declared.data.Entry.{Entry}
use Rattle.rtio_core.specs.declared.data.StartOf.{StartOf}
use Rattle.rtio_core.specs.Core.{CoreState}
use Rattle.rtio_core.specs.Entries.{last_cursor}
use Rattle.sched_state.specs.declared.entry.KernelResult.{KernelResult}
use Rattle.core_isa.specs.declared.code.Code.{Code}
use Rattle.core_cpu.specs.Standing.{Start as Beginning}
use Rattle.kern_syntax.specs.Tree.{ProgramTree}
use Rattle.core_session.specs.Sessions.{Answered, EndsAs, beginning_of, replies_of}
use Rattle.kernel_session.specs.Meant.{account_of_meaning, meant, script_of}
use Rattle.kernel_session.specs.Replays.{PlaysRecordings}
use Rattle.lab_kernels.specs.CutShort.{IsCutShort, LacksReply}
use Rattle.lab_kernels.specs.Kernels.{AreAskedAtTop, KernelRun, entries_until_end, session_entries}
use Rattle.lab_kernels.specs.Runs.{HasRun, RunsCode}

-- how the run of a session begins: at the cursor of the last end before it
abbrev pub beginning_behind : (before : List Entry) → (units : ℕ) → KernelRun → Beginning
beginning_behind before units k = record { function = k.of.function; args = k.of.args; cursor = last_cursor before; units = units }

-- the session's requests, outcome and cursor are those of the program's meaning under its replies; so each recording
-- that a reply brought was asked for at the cursor where the meaning stood then, and is played there
pub record MeansProgram (program : ProgramTree) (units chair : ℕ) (config : Config) (before : List Entry) (k : KernelRun) : Type 0 where
  pub ends : EndsAs
      config
      (before ++ entries_until_end chair before k)
      k.asked
      (account_of_meaning (meant program (beginning_behind before units k) (replies_of k.asked)))
      k.how
      k.cursor
  pub plays : PlaysRecordings (script_of program (beginning_behind before units k)) k.asked k.how

-- the code has run as a session of the chair, which is one of the program's meaning
pub record RunsKernel (program : ProgramTree) (code : Code) (units chair : ℕ) (of : StartOf) (old new : CoreState) (result : KernelResult) : Type 0 where
  pub ran : HasRun code units chair of old new result
  pub means : MeansProgram program units chair old.config old.history ran.k

-- under the replies to these the program's meaning asks this request next
abbrev pub ProgramAsks : ProgramTree → Beginning → List Answered → Request → Type 0
ProgramAsks program start asked request = LacksReply (account_of_meaning (meant program start (replies_of asked))) asked request

-- without memory the core is as before, or its session of the program's meaning was cut short
abbrev pub LeavesKernel : ProgramTree → (units chair : ℕ) → StartOf → CoreState → CoreState → Type 0
LeavesKernel program units chair of old new = (new ≡ old) ⊎ IsCutShort (ProgramAsks program (beginning_of of units old)) chair of old new

-- a session of the chair is all that stands in the later history behind the earlier. It was started for this; each
-- request stands at its top, and an end at the horizon there; and it is one of the code, and of the program's meaning
pub record IsKernelSession (program : ProgramTree) (code : Code) (units chair : ℕ) (of : StartOf) (config : Config) (before after : List Entry) (k : KernelRun) : Type 0 where
  pub of_is : k.of ≡ of
  pub stands : after ≡ before ++ session_entries chair before k
  pub at_top : AreAskedAtTop config before (session_entries chair before k)
  pub runs : RunsCode code units chair config before k
  pub means : MeansProgram program units chair config before k
