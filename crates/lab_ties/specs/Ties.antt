-- How a chair's sessions on a core and its reports to the scheduler belong together.
use Rattle.std.specs.Prelude.{◌≡◌, ℕ, List, map, filter_map, ◌==◌, if◌then◌else◌, Option, Some, None}
use Rattle.std.specs.List.{All}
use Rattle.rtio_core.specs.declared.data.Act.{Act}
use Rattle.rtio_core.specs.declared.data.Act.TheVariants.{Start}
use Rattle.rtio_core.specs.declared.data.Config.{Config}
use Rattle.rtio_core.specs.declared.data.Entry.{Entry}
use Rattle.exp_model.specs.declared.session.Session.{Session}
use Rattle.sched_state.specs.declared.entry.KernelResult.{KernelResult}
use Rattle.sched_state.specs.declared.entry.SchedAct.{SchedAct}
use Rattle.sched_state.specs.declared.entry.SchedAct.TheVariants.{Stepped}
use Rattle.sched_state.specs.declared.entry.SchedEntry.{SchedEntry}
use Rattle.lab_kernels.specs.Kernels.{KernelRun, result_of}
use Rattle.lab_ties.specs.Steps.{IsKernelStep}

-- the run and the step that an act begins a session for
abbrev pub step_begun : Act → Option (ℕ × ℕ)
step_begun (Start of cursor at) = Some (of.rid, of.pos)
step_begun act = None

-- those of the sessions that some acts on a core begin, in order
abbrev pub steps_begun : List Act → List (ℕ × ℕ)
steps_begun acts = filter_map step_begun acts

-- what is reported of a kernel step: its run, its position there, and its result
pub record Report : Type 0 where
  pub rid : ℕ
  pub place : ℕ
  pub result : KernelResult

-- where the step is one of this pipeline
abbrev pub report_in : (pipeline other : ℕ) → Report → Option Report
report_in pipeline other report = if other == pipeline then Some report else None

-- the report of a kernel step of this pipeline that an act is
abbrev pub report_of : (pipeline : ℕ) → SchedAct → Option Report
report_of pipeline (Stepped rid place other clock (Some result) word) =
    report_in pipeline other (record { rid = rid; place = place; result = result })
report_of pipeline act = None

-- those among some acts at the scheduler, in order
abbrev pub reports_of : (pipeline : ℕ) → List SchedAct → List Report
reports_of pipeline acts = filter_map (report_of pipeline) acts

-- the step of a session
abbrev pub step_of : KernelRun → ℕ × ℕ
step_of k = (k.of.rid, k.of.pos)

-- what has to be reported of it
abbrev pub report_on : KernelRun → Report
report_on k = record { rid = k.of.rid; place = k.of.pos; result = result_of k }

-- Of these acts of a chair, the sessions on a pipeline's core and the reports of
-- kernel steps of the pipeline are of the same steps, each once and in one order;
-- each session is one of its step; and each report has the result of its session
pub record AreTied (session : Session) (pipeline : ℕ) (config : Config) (chair : ℕ) (sched : List SchedEntry) (reports : List SchedAct) (history : List Entry) (acts : List Act) : Type 0 where
  pub done : List KernelRun
  pub begun : steps_begun acts ≡ map step_of done
  pub told : reports_of pipeline reports ≡ map report_on done
  pub right : All (IsKernelStep session config sched pipeline chair history) done
