-- What a laboratory leaves whose session came to its end.
use Rattle.std.specs.Prelude.{◌≡◌, ℕ, List, [], flat_map, slice_get, Some, None}
use Rattle.rtio_core.specs.Core.{CoreState, IsCore, core_top}
use Rattle.rtio_headline.specs.Headline.{Headline}
use Rattle.exp_model.specs.declared.session.Session.{Session}
use Rattle.sched_core.specs.Scheds.{IsSched, SchedValue}
use Rattle.lab_report.specs.Report.{cores_from, lab_text}
use Rattle.stage_work.specs.Finished.{IsFinished}
use Rattle.stage_work.specs.Laws.{AreAskedAtTop}
use Rattle.stage_work.specs.Serving.{ArePrompt}

-- on each core no cycle passed before a start nor before an end, unless that is one at the horizon
abbrev pub ArePromptCores : List CoreState → Type 0
ArePromptCores cores = (pipeline : ℕ) (core : CoreState) → slice_get cores pipeline ≡ Some core → ArePrompt [] core.history

-- The workers have done all that there was to do; and where
-- there is one, it let no cycle pass but where a kernel waited
pub record IsWorkedOff (session : Session) (sched : SchedValue) (cores : List CoreState) : Type 0 where
  pub finished : IsFinished session session.workers sched cores
  pub prompt : session.workers ≡ 1 → ArePromptCores cores

-- A core's history is lawful: each request stands at a counter that it may have, and got the right
-- reply there. That counter is the greatest that it may have, and an end at the horizon stands
-- there. No request waits, and the core ticked until it was stopped; and the headline holds of it
pub record IsRunCore (core : CoreState) : Type 0 where
  pub lawful : IsCore core
  pub at_top : AreAskedAtTop core.config [] core.history
  pub idle : core.waiting ≡ None
  pub stopped : core.counter ≡ core_top core
  pub headline : Headline core

-- A session's run by its workers came to its end. The scheduler's history is lawful, and so is that
-- of each core. All was done: nothing is in flight, nobody halted the scheduler, no arrival is left,
-- and every run has ended; each source was judged rightly; and of each chair and each pipeline the
-- sessions on the core and the scheduler's reports of the kernel steps are of the same steps
pub record IsRunOf (session : Session) (sched : SchedValue) (cores : List CoreState) : Type 0 where
  pub lawful : IsSched sched
  pub done : IsWorkedOff session sched cores
  pub each : (pipeline : ℕ) (core : CoreState) → slice_get cores pipeline ≡ Some core → IsRunCore core

-- the lines are those of the cores of such a run, by pipeline
pub record IsToldRun (session : Session) (sched : SchedValue) (lines : List (List ℕ)) : Type 0 where
  pub cores : List CoreState
  pub is_run : IsRunOf session sched cores
  pub lines_are : flat_map (λ line. line) lines ≡ cores_from 0 cores

-- the bytes are the report of such a run
pub record ReportsRun (session : Session) (written : List ℕ) : Type 0 where
  pub sched : SchedValue
  pub cores : List CoreState
  pub is_run : IsRunOf session sched cores
  pub report : written ≡ lab_text sched cores
