-- The bytes that report a run, and its status.
use Rattle.std.specs.Prelude.{◌≡◌, ℕ, List, [], ◌++◌, Bool, true, false}
use Rattle.rtio_types.specs.declared.outcome.Outcome.{Outcome}
use Rattle.rtio_types.specs.declared.outcome.Outcome.TheVariants as outcome
use Rattle.rtio_core.specs.Core.{CoreState}
use Rattle.core_analyzer.specs.CoreDumps.{dump_of}
use Rattle.core_analyzer.specs.Dumps.{dump_bytes}
use Rattle.sim_report.specs.Pending.{pends}
use Rattle.sim_report.specs.Recordings.{dma_text}
use Rattle.sim_report.specs.Report.{report_text, summary_text}
use Rattle.top_calls.specs.declared.finish.Finish.{Finish}
use Rattle.top_calls.specs.declared.finish.Finish.TheVariants.{Whole, Raised, Unfinished}
use Rattle.top_calls.specs.Statuses.{status_of}
use Rattle.sim_program.specs.declared.report.Form.{Form}
use Rattle.sim_program.specs.declared.report.Form.TheVariants.{Report, Summary, Bytes}

-- how a run is finished: unfinished where the units were used up or the last cycle was
-- reached, or where the kernel returned and an event is still to be put out
abbrev pub finish_of : Outcome → (pending : Bool) → Finish
finish_of outcome.Returned true = Unfinished
finish_of outcome.Returned false = Whole
finish_of (outcome.Raised x) pending = Raised
finish_of outcome.Budget pending = Unfinished
finish_of outcome.Horizon pending = Unfinished

-- the lines of the kept recordings, where they are asked for
abbrev pub dma_part : (dma : Bool) → CoreState → List ℕ
dma_part true core = dma_text core
dma_part false core = []

-- the text of a run in its form: the report, with the lines of the kept recordings
-- behind it where they are asked for, the summary, or the bytes of what the core did
abbrev pub told_text : Form → CoreState → (budget size steps : ℕ) → List ℕ
told_text (Report dma) core budget size steps = report_text core budget size steps ++ dma_part dma core
told_text Summary core budget size steps = summary_text core budget size steps
told_text Bytes core budget size steps = dump_bytes (dump_of core)

-- the bytes and the status tell of a run, in this form
pub record Tells (IsRun : CoreState → Outcome → (size steps : ℕ) → Type 0) (form : Form) (budget : ℕ) (written : List ℕ) (status : ℕ) : Type 0 where
  pub core : CoreState
  pub how : Outcome
  pub size : ℕ
  pub steps : ℕ
  pub run : IsRun core how size steps
  pub text : written ≡ told_text form core budget size steps
  pub status_is : status ≡ status_of (finish_of how (pends core))
