-- Runs: the core that one session leaves, of a kernel's `main` or of an image's main function.
use Rattle.std.specs.Prelude.{◌≡◌, ℕ, List, [], length, Some, slice_get, codes}
use Rattle.rtio_types.specs.declared.outcome.Outcome.{Outcome}
use Rattle.rtio_types.specs.declared.request.Reply.{Reply}
use Rattle.rtio_core.specs.declared.data.StartOf.{StartOf}
use Rattle.rtio_core.specs.Core.{CoreState, IsCore, new_core}
use Rattle.rtio_headline.specs.Headline.{Headline}
use Rattle.kern_syntax.specs.Tree.{FunctionTree, ProgramTree}
use Rattle.core_isa.specs.declared.code.Code.{Code}
use Rattle.core_image.specs.Spelling.{image_of}
use Rattle.code_law.specs.DoesAs.{DoesAs}
use Rattle.run_schedule.specs.Schedules.{Lockstep, ScheduleState}
use Rattle.core_session.specs.Lockstep.{GrowsAtTop}
use Rattle.core_session.specs.Scripts.{IsScriptOf, Next}
use Rattle.core_session.specs.Sessions.{RunsSession, beginning_of}
use Rattle.core_session.specs.Timed.{IsTimed, drained}
use Rattle.kernel_session.specs.Meant.{MeansSession, script_of}
use Rattle.sim_words.specs.declared.asked.Options.{Options}
use Rattle.kern_accepted.specs.Texts.{IsKernelText}
use Rattle.sim_program.specs.Images.{IsAcceptedImage}

-- what the session runs: a function of source 0, without arguments, for the first step of run 0
abbrev pub start_of : (function : ℕ) → StartOf
start_of function = record { source = 0; function = function; args = []; rid = 0; pos = 0 }

-- a function of a program is its `main`
pub record IsMain (program : ProgramTree) (index : ℕ) : Type 0 where
  pub function : FunctionTree
  pub found : slice_get program index ≡ Some function
  pub named : function.name ≡ codes "main"

-- the core that is reported is the one that the session left, after it went on
-- until it was stopped. Its history is lawful: each request stands at a counter
-- that it may have, and got the right reply there. And the headline holds of it
pub record IsReported (left core : CoreState) : Type 0 where
  pub drained : core ≡ drained left
  pub lawful : IsCore core
  pub headline : Headline core

-- a session of a program's `main` on a new core: its requests, outcome and cursor are what the
-- program means under its replies, and history and counter are the ones that the options' schedule
-- makes of that, step by step. In lockstep each request was asked where the core had stopped
pub record RunsMain (program : ProgramTree) (options : Options) (main : ℕ) (left : CoreState) (how : Outcome) : Type 0 where
  pub is_main : IsMain program main
  pub session : MeansSession program options.budget (start_of main) (new_core options.config) left how
  pub after : ScheduleState
  pub timed : IsTimed (script_of program (beginning_of (start_of main) options.budget (new_core options.config))) 0 (start_of main) (new_core options.config) options.schedule left after
  pub at_top : options.schedule ≡ Lockstep → GrowsAtTop (new_core options.config) left

-- the numbers of the line `code`, from some code that does what the program does: the length of its image, and how many
-- instructions its run of the same session begins
pub record IsCounted (program : ProgramTree) (options : Options) (main : ℕ) (left : CoreState) (how : Outcome) (size steps : ℕ) : Type 0 where
  pub code : Code
  pub does : DoesAs program code
  pub size_is : size ≡ length (image_of code)
  pub runs : RunsSession code options.budget (start_of main) (new_core options.config) left how steps

-- a run of the kernel that the text is leaves this core
pub record RunsKernel (options : Options) (text : List ℕ) (core : CoreState) (how : Outcome) (size steps : ℕ) : Type 0 where
  pub program : ProgramTree
  pub is_kernel : IsKernelText text program
  pub main : ℕ
  pub left : CoreState
  pub runs : RunsMain program options main left how
  pub counted : IsCounted program options main left how size steps
  pub reported : IsReported left core

-- a run of the main function of accepted code leaves this core: the session's requests, outcome
-- and cursor are those of the code's run under its replies, and history and counter are the ones
-- that the options' schedule makes of the script of the code's runs, step by step
pub record RunsCode (code : Code) (options : Options) (core : CoreState) (how : Outcome) (steps : ℕ) : Type 0 where
  pub left : CoreState
  pub session : RunsSession code options.budget (start_of code.main) (new_core options.config) left how steps
  pub after : ScheduleState
  pub next : List Reply → Next
  pub script : IsScriptOf code (beginning_of (start_of code.main) options.budget (new_core options.config)) next
  pub timed : IsTimed next 0 (start_of code.main) (new_core options.config) options.schedule left after
  pub at_top : options.schedule ≡ Lockstep → GrowsAtTop (new_core options.config) left
  pub reported : IsReported left core

-- the bytes are the image of accepted code, of which a run leaves this core
pub record RunsImage (options : Options) (bytes : List ℕ) (core : CoreState) (how : Outcome) (size steps : ℕ) : Type 0 where
  pub code : Code
  pub accepted : IsAcceptedImage bytes code
  pub size_is : size ≡ length bytes
  pub runs : RunsCode code options core how steps
