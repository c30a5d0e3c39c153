-- What a chair does for a step that runs a kernel: a session on the core of the run's pipeline.
use Rattle.std.specs.Prelude.{◌≡◌, ℕ, List, ◌++◌, slice_get, ℤ, Some}
use Rattle.rtio_core.specs.declared.data.Config.{Config}
use Rattle.rtio_core.specs.declared.data.Entry.{Entry}
use Rattle.rtio_core.specs.declared.data.StartOf.{StartOf}
use Rattle.exp_runs.specs.declared.run.Run.{Run}
use Rattle.exp_runs.specs.Keys.{run_of}
use Rattle.exp_model.specs.declared.session.Session.{Session}
use Rattle.exp_model.specs.declared.step.HostStep.TheVariants.{Kernel}
use Rattle.sched_state.specs.declared.entry.SchedEntry.{SchedEntry}
use Rattle.sched_state.specs.Lawful.{state_after}
use Rattle.sched_state.specs.Reports.{run_steps}
use Rattle.sched_core.specs.Scheds.{source_of_run}
use Rattle.kern_syntax.specs.Tree.{Bytes, ProgramTree}
use Rattle.core_isa.specs.declared.code.Code.{Code}
use Rattle.lab_kernels.specs.DoesAs.{DoesAs}
use Rattle.lab_kernels.specs.Kernels.{AreAskedAtTop, KernelRun, session_entries}
use Rattle.lab_kernels.specs.Meanings.{MeansProgram}
use Rattle.lab_kernels.specs.Runs.{RunsCode}
use Rattle.lab_kits.specs.declared.kit.Kit.{Kit}
use Rattle.lab_kits.specs.Calls.{HasFunction}
use Rattle.kern_accepted.specs.Texts.{IsKernelText}

-- what the session of a step is started for, by the kit of its run
abbrev pub start_of : Kit → (function : ℕ) → (args : List ℤ) → (rid place : ℕ) → StartOf
start_of kit function args rid place =
    record { source = kit.source; function = function; args = args; rid = rid; pos = place }

-- A session is started for a step of a run: the run is of this pipeline; its experiment names this source, and as its
-- step at this position a kernel's with these arguments; and the source is the text of an accepted kernel, with this
-- program, whose function of this number has the name that the step calls, and takes the arguments
pub record IsForStep (session : Session) (program : ProgramTree) (sched : List SchedEntry) (pipeline : ℕ) (of : StartOf) : Type 0 where
  pub run : Run
  pub found : run_of (state_after session sched).runs of.rid ≡ Some run
  pub in_pipeline : run.pipeline ≡ pipeline
  pub source : source_of_run session run ≡ Some of.source
  pub name : Bytes
  pub step : slice_get (run_steps session run) of.pos ≡ Some (Kernel name of.args)
  pub text : Bytes
  pub text_is : slice_get session.sources of.source ≡ Some text
  pub is_kernel : IsKernelText text program
  pub function : HasFunction program name of.args of.function

-- A session of a chair stands in a core's history, behind these entries and before those. Each request was asked as
-- late as it may be, and an end at the horizon stands there. Its requests, outcome and cursor are those of the
-- program's meaning under its own replies, with the units that the session of the laboratory gives; and it took as many
-- instructions as a code that does what the program does takes under them
pub record IsSession (session : Session) (program : ProgramTree) (config : Config) (chair : ℕ) (history : List Entry) (k : KernelRun) : Type 0 where
  pub before : List Entry
  pub after : List Entry
  pub stands : history ≡ before ++ session_entries chair before k ++ after
  pub at_top : AreAskedAtTop config before (session_entries chair before k)
  pub means : MeansProgram program session.budget chair config before k
  pub code : Code
  pub does : DoesAs program code
  pub counts : RunsCode code session.budget chair config before k

-- it is one, for a step
pub record IsKernelStep (session : Session) (config : Config) (sched : List SchedEntry) (pipeline chair : ℕ) (history : List Entry) (k : KernelRun) : Type 0 where
  pub program : ProgramTree
  pub for_step : IsForStep session program sched pipeline k.of
  pub is_session : IsSession session program config chair history k
