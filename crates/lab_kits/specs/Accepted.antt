-- Which sources are accepted.
use Rattle.std.specs.Prelude.{◌≡◌, ℕ, slice_get, Some}
use Rattle.std.specs.List.{AllByRecursion}
use Rattle.kern_syntax.specs.Tree.{Bytes, ProgramTree}
use Rattle.exp_runs.specs.declared.run.Run.{Run}
use Rattle.exp_model.specs.declared.session.Session.{Session}
use Rattle.sched_state.specs.Reports.{run_steps}
use Rattle.sched_core.specs.Scheds.{HasCall, source_of_run}
use Rattle.lab_kits.specs.Calls.{HasCallOf}
use Rattle.kern_accepted.specs.Texts.{IsKernelText}

-- the source of a run is the text of an accepted kernel, and each kernel step of
-- its run stage names a function of that kernel, which the step's arguments fit
pub record IsAccepted (session : Session) (run : Run) : Type 0 where
  pub source : ℕ
  pub source_is : source_of_run session run ≡ Some source
  pub text : Bytes
  pub text_is : slice_get session.sources source ≡ Some text
  pub program : ProgramTree
  pub is_kernel : IsKernelText text program
  pub calls : AllByRecursion (HasCall HasCallOf program) (run_steps session run)
