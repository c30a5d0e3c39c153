-- What is known of a job before it is done, and of its report.
use Rattle.std.proofs.Common.{◌≡◌, ℕ, zero, suc, ◌<◌, List, [], ◌∷◌, length, get_or, inl, inr, refl, sym, ap, subst, ◌∙◌}
use Rattle.std.specs.Prelude.{ℤ, Option, Some, None, Result, Ok, Err, OnErr, slice_get, slice_set}
use Rattle.std.specs.List.{AllByRecursion}
use Rattle.std.proofs.lemmas.Option.{slice_get-get_or}
use Rattle.rtio_core.specs.declared.data.StartOf.{StartOf}
use Rattle.exp_runs.specs.declared.run.Run.{Run}
use Rattle.exp_runs.specs.Keys.{run_of}
use Rattle.exp_model.specs.declared.session.Session.{Session}
use Rattle.exp_model.specs.declared.step.HostStep.{HostStep}
use Rattle.exp_model.specs.declared.step.HostStep.TheVariants.{Append, CheckTermination, Kernel, Pause, Set, Submit, Sum}
use Rattle.sched_state.specs.declared.entry.JobName.TheVariants as name
use Rattle.sched_state.specs.declared.entry.KernelResult.{KernelResult}
use Rattle.sched_state.specs.declared.entry.SchedEntry.{SchedEntry}
use Rattle.sched_state.specs.Lawful.{HasResult, found_step, state_after}
use Rattle.sched_core.specs.Scheds.{HasCall}
use Rattle.lab_kits.specs.declared.kit.Kit.{Kit}
use Rattle.lab_kits.specs.Calls.{HasCallOf, HasFunction}
use Rattle.lab_kits.specs.Kits.{KitCall, program_in}
use Rattle.lab_ties.specs.DoesAs.{DoesAs}
use Rattle.lab_ties.specs.Steps.{start_of}
use Rattle.stage_work.specs.declared.tasks.Report.{Report}
use Rattle.stage_work.specs.declared.tasks.Report.TheVariants as report
use Rattle.stage_work.specs.declared.tasks.StepTask.{StepTask}
use Rattle.stage_work.specs.declared.tasks.Task.{Task}
use Rattle.stage_work.specs.declared.tasks.Task.TheVariants as task
use Rattle.stage_work.specs.Doing.{Cutting, HasDone, HasRun, IsPreparation, IsStepDone, LeavesPlaces, LeavesStart, Running}
use Rattle.stage_work.specs.Reports.{IsRight}
use Rattle.stage_work.specs.Starting.{IsStartFor, MayStart}
use Rattle.stage_work.specs.Tasks.{IsStepIn, IsTaskIn}

pub on-err : {X E : Type 0} (r : Result X E) (P : Type 0) → P → OnErr r P
on-err (Ok x) P p = tt
on-err (Err e) P p = p

-- ---- a step before it is done

all-get : {X : Type 0} (P : X → Type 0) (xs : List X) (n : ℕ) (x : X) → AllByRecursion P xs → slice_get xs n ≡ Some x → P x
all-get P [] n x all at = absurd (cc)
all-get P (y ∷ ys) zero x all at = let is : y ≡ x = cc in subst P is all.0
all-get P (y ∷ ys) (suc n) x all at = all-get P ys n x all.1 at

-- a kernel's step calls a function that the kit has
pub has-call : (session : Session) (sched : List SchedEntry) (step : StepTask) → IsStepIn session sched step → HasCall KitCall step.kit step.step
has-call session sched step is =
    all-get (HasCall KitCall step.kit) _ step.pos step.step is.4.calls (sym (ap (found_step session step.pos) is.1) ∙ is.3)

-- a step that calls a function by this name
pub called : (kit : Kit) (step : HostStep) (name read : List ℕ) (args : List ℤ) → step ≡ Kernel name args → read ≡ name → HasCall KitCall kit step
    → HasCallOf (program_in kit) read args
called kit step name read args is same call =
    let C : List ℕ → Type 0 = λ n. HasCallOf (program_in kit) n args in
    subst C (sym same) (subst (HasCall KitCall kit) is call)

-- a step that has a session is a kernel's
pub kernel-of : (kit : Kit) (rid place : ℕ) (step : HostStep) (of : StartOf) → IsStartFor kit rid place step (Some of)
    → (name : List ℕ) × (args : List ℤ) × (function : ℕ) × (step ≡ Kernel name args) × HasFunction (program_in kit) name args function
    × (of ≡ start_of kit function args rid place)
kernel-of kit rid place (Kernel name args) of (function, f, is) = (name, args, function, refl, f, is)
kernel-of kit rid place Pause of is = absurd is
kernel-of kit rid place CheckTermination of is = absurd is
kernel-of kit rid place (Set name value broadcast persist archive) of is = absurd is
kernel-of kit rid place (Append name value) of is = absurd is
kernel-of kit rid place (Sum name into) of is = absurd is
kernel-of kit rid place (Submit asked) of is = absurd is

-- whose function takes its arguments
pub may-start : (kit : Kit) (rid place : ℕ) (step : HostStep) (start : Option StartOf) → IsStartFor kit rid place step start → MayStart kit start
may-start kit rid place step None is = tt
may-start kit rid place step (Some of) is =
    let k = kernel-of kit rid place step of is in
    let M : StartOf → Type 0 = λ o. MayStart kit (Some o) in
    let f = k.4 in
    subst M (sym k.5) (f.f, f.found, f.fit)

-- ---- a step that was done

-- no other has a result
no-result : (kit : Kit) (rid place : ℕ) (step : HostStep) → IsStartFor kit rid place step None → HasResult (Some step) None
no-result kit rid place (Kernel name args) is = absurd is
no-result kit rid place Pause is = tt
no-result kit rid place CheckTermination is = tt
no-result kit rid place (Set name value broadcast persist archive) is = tt
no-result kit rid place (Append name value) is = tt
no-result kit rid place (Sum name into) is = tt
no-result kit rid place (Submit asked) is = tt

module _ {Place : Type 0} (Runs : Running Place) where
  has-result : (kit : Kit) (rid place pipeline : ℕ) (step : HostStep) (start : Option StartOf) (ran : Option KernelResult) (old new : List Place)
      → IsStartFor kit rid place step start → HasRun Runs pipeline kit start ran old new → HasResult (Some step) ran
  has-result kit rid place pipeline step (Some of) (Some result) old new is run =
      let k = kernel-of kit rid place step of is in
      let R : HostStep → Type 0 = λ s. HasResult (Some s) (Some result) in
      subst R (sym k.3) tt
  has-result kit rid place pipeline step (Some of) None old new is run = absurd run
  has-result kit rid place pipeline step None (Some result) old new is run = absurd run
  has-result kit rid place pipeline step None None old new is run = no-result kit rid place step is

  -- it tells of itself what is right
  pub step-done : (session : Session) (step : StepTask) (start : Option StartOf) (ran : Option KernelResult) (old new : List Place)
      → DoesAs (program_in step.kit) step.kit.compiled.1 → IsStartFor step.kit step.rid step.pos step.step start
      → HasRun Runs step.pipeline step.kit start ran old new
      → HasDone Runs session (task.Step step) (report.Stepped step.rid step.pos step.kit ran) old new
  step-done session step start ran old new does is run = record { tells = refl; right = right; does = done }
    where
      right : (sched : List SchedEntry) → IsTaskIn session sched (task.Step step) → IsRight session sched (report.Stepped step.rid step.pos step.kit ran)
      right sched (of, found, in_pipeline, step_is, kit_is) = (
        of,
        found,
        (
          kit_is,
          (
            step.step,
            sym (ap (found_step session step.pos) found) ∙ step_is,
            has-result step.kit step.rid step.pos step.pipeline step.step start ran old new is run,
          ),
        ),
      )

      done : IsStepDone Runs step (report.Stepped step.rid step.pos step.kit ran) old new
      done = record { does = does; start = start; for_step = is; ran = ran; tells = refl; run = run }

  -- ---- other jobs

  pub prepared-done : (session : Session) (rid : ℕ) (run : Run) (told : Report) (places : List Place) → IsPreparation session rid run told
      → HasDone Runs session (task.Prepare rid run) told places places
  prepared-done session rid run (report.Prepared other kit) places (is, fits, accepted) = record {
    tells = ap name.Prepare is;
    right = λ sched found.
        (let F : ℕ → Type 0 = λ n. run_of (state_after session sched).runs n ≡ Some run in (run, subst F (sym is) found, (fits, accepted)));
    does = (tt, refl);
  }
  prepared-done session rid run (report.Refused other) places (is, refused) = record {
    tells = ap name.Prepare is;
    right = λ sched found.
        (let F : ℕ → Type 0 = λ n. run_of (state_after session sched).runs n ≡ Some run in (run, subst F (sym is) found, refused));
    does = (tt, refl);
  }
  prepared-done session rid run (report.Stepped other pos kit ran) places is = absurd is
  prepared-done session rid run (report.Analyzed other) places is = absurd is

  pub analyzed-done : (session : Session) (rid : ℕ) (places : List Place) → HasDone Runs session (task.Analyze rid) (report.Analyzed rid) places places
  analyzed-done session rid places = record { tells = refl; right = λ sched is. tt; does = (tt, refl) }

-- ---- what is left of a job that isn't reported

module _ {Place : Type 0} (Runs : Running Place) (Cuts : Cutting Place) where
  start-left : (pipeline : ℕ) (kit : Kit) (start : Option StartOf) (ran : Option KernelResult) (old new : List Place)
      → HasRun Runs pipeline kit start ran old new → LeavesStart Runs Cuts pipeline kit start old new
  start-left pipeline kit (Some of) (Some result) old new changes = record {
    old = changes.old;
    new = changes.new;
    found = changes.found;
    leaves = changes.leaves;
    so = inr (result, changes.so);
  }
  start-left pipeline kit (Some of) None old new run = absurd run
  start-left pipeline kit None (Some result) old new run = absurd run
  start-left pipeline kit None None old new same = same

  pub done-left : (session : Session) (taken : Task) (told : Report) (old new : List Place) → HasDone Runs session taken told old new
      → LeavesPlaces Runs Cuts taken old new
  done-left session (task.Prepare rid run) told old new done = done.does.1
  done-left session (task.Step step) told old new done =
      let d = done.does in (d.start, d.for_step, start-left step.pipeline step.kit d.start d.ran old new d.run)
  done-left session (task.Analyze rid) told old new done = done.does.1

  -- or that has left them alone
  pub nothing-left : (taken : Task) (rid : ℕ) (run : Run) (places : List Place) → taken ≡ task.Prepare rid run → LeavesPlaces Runs Cuts taken places places
  nothing-left taken rid run places is =
      let L : Task → Type 0 = λ t. LeavesPlaces Runs Cuts t places places in subst L (sym is) refl

-- ---- a kernel at the place of its pipeline

module _ {Place : Type 0} (Runs : Running Place) (Cuts : Cutting Place) (pipeline : ℕ) (kit : Kit) (start : Option StartOf) (of : StartOf) (places : List Place)
    (d new : Place) (is : start ≡ Some of) (there : pipeline < length places) where
  -- which ran
  pub kernel-ran : (result : KernelResult) → Runs pipeline kit of (get_or places pipeline d) new result
      → HasRun Runs pipeline kit start (Some result) places (slice_set places pipeline new)
  kernel-ran result runs =
      let H : Option StartOf → Type 0 = λ s. HasRun Runs pipeline kit s (Some result) places (slice_set places pipeline new) in
      subst H (sym is) (record { old = get_or places pipeline d; new = new; found = slice_get-get_or places pipeline d there; leaves = refl; so = runs })

  -- or was cut short
  pub kernel-cut : Cuts pipeline kit of (get_or places pipeline d) new → LeavesStart Runs Cuts pipeline kit start places (slice_set places pipeline new)
  kernel-cut cut =
      let L : Option StartOf → Type 0 = λ s. LeavesStart Runs Cuts pipeline kit s places (slice_set places pipeline new) in
      subst L (sym is) (record { old = get_or places pipeline d; new = new; found = slice_get-get_or places pipeline d there; leaves = refl; so = inl cut })

-- ---- the job that was done is the one that was taken
pub done-as : {Place : Type 0} (Runs : Running Place) (session : Session) (taken other : Task) (told : Report) (old new : List Place) → other ≡ taken
    → HasDone Runs session taken told old new → HasDone Runs session other told old new
done-as Runs session taken other told old new is =
    let D : Task → Type 0 = λ t. HasDone Runs session t told old new in subst D (sym is)

pub left-as : {Place : Type 0} (Runs : Running Place) (Cuts : Cutting Place) (taken other : Task) (old new : List Place) → other ≡ taken
    → LeavesPlaces Runs Cuts taken old new → LeavesPlaces Runs Cuts other old new
left-as Runs Cuts taken other old new is =
    let L : Task → Type 0 = λ t. LeavesPlaces Runs Cuts t old new in subst L (sym is)
