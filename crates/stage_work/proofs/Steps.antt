-- The cores after a step that was done and reported.
use Rattle.std.proofs.Common.{◌≡◌, ◌≢◌, ℕ, ◌+◌, true, false, List, [], ◌∷◌, ◌++◌, refl, sym, ap, subst, ◌∙◌, inl, inr, eq-eqb, ne_eqb}
use Rattle.std.specs.Prelude.{◌⊎◌, ◌==◌, Option, Some, None, slice_get}
use Rattle.std.proofs.lemmas.List.{length-set}
use Rattle.rtio_core.specs.declared.data.StartOf.{StartOf}
use Rattle.rtio_core.specs.Core.{CoreState}
use Rattle.exp_runs.specs.Keys.{run_of}
use Rattle.exp_model.specs.declared.session.Session.{Session}
use Rattle.exp_model.specs.declared.step.HostStep.{HostStep}
use Rattle.sched_state.specs.declared.entry.KernelResult.{KernelResult}
use Rattle.sched_state.specs.declared.entry.SchedEntry.{SchedEntry}
use Rattle.sched_state.specs.Lawful.{state_after}
use Rattle.sched_core.specs.declared.answer.Job.TheVariants as job
use Rattle.sched_core.specs.Calls.{IsJobFor, entry_of, found_pipeline}
use Rattle.lab_ties.specs.DoesAs.{DoesAs}
use Rattle.lab_kernels.specs.Kernels.{KernelRun, result_of}
use Rattle.lab_kernels.specs.Meanings.{RunsKernel}
use Rattle.lab_kits.specs.Kits.{KitCall, KitText, kit_source, program_in}
use Rattle.lab_ties.proofs.Kerneled.{kernel-session, kernels-are-steps}
use Rattle.lab_ties.specs.Steps.{start_of}
use Rattle.lab_ties.specs.Ties.{report_on, reports_of}
use Rattle.stage_work.proofs.Cores.{core-after-kernel, core-over, cores-over, set-at}
use Rattle.stage_work.proofs.Done.{kernel-of}
use Rattle.stage_work.specs.declared.tasks.StepTask.{StepTask}
use Rattle.stage_work.specs.Doing.{HasRun}
use Rattle.stage_work.specs.Reports.{step_told}
use Rattle.stage_work.specs.Serving.{AreServedCores, IsServedCore, OwnRuns}
use Rattle.stage_work.specs.Starting.{IsStartFor}
use Rattle.stage_work.specs.Tasks.{IsStepIn}

module _ (session : Session) (sched : List SchedEntry) (step : StepTask) (is : IsStepIn session sched step) where
  in-pipeline : found_pipeline (run_of (state_after session sched).runs step.rid) ≡ step.pipeline
  in-pipeline = ap found_pipeline is.1 ∙ is.2

  -- its report is none of another pipeline
  pub others-none : (ran : Option KernelResult) (other : ℕ) → other ≢ step.pipeline
      → reports_of other (step_told session sched step.rid step.pos ran ∷ []) ≡ []
  others-none None other apart = refl
  others-none (Some result) other apart =
      let away : (found_pipeline (run_of (state_after session sched).runs step.rid) == other) ≡ false =
      ne_eqb (found_pipeline (run_of (state_after session sched).runs step.rid)) other (λ same. apart (sym same ∙ in-pipeline)) in
      rw away refl

  pub one-report : (result : KernelResult) (k : KernelRun) (of : StartOf) → k.of ≡ of → of.rid ≡ step.rid → of.pos ≡ step.pos → result ≡ result_of k
      → reports_of step.pipeline (step_told session sched step.rid step.pos (Some result) ∷ []) ≡ report_on k ∷ []
  one-report result k of is_of rid place tells =
      let here : (found_pipeline (run_of (state_after session sched).runs step.rid) == step.pipeline) ≡ true =
      eq-eqb (found_pipeline (run_of (state_after session sched).runs step.rid)) step.pipeline in-pipeline in
      let number : step.rid ≡ k.of.rid = sym rid ∙ sym (ap (λ (o : StartOf). o.rid) is_of) in
      let position : step.pos ≡ k.of.pos = sym place ∙ sym (ap (λ (o : StartOf). o.pos) is_of) in
      rw here (λ i. record { rid = number i; place = position i; result = tells i } ∷ [])

  -- the core of its pipeline
  own-core : DoesAs (program_in step.kit) step.kit.compiled.1 → (of : StartOf) (result : KernelResult) (old new : CoreState)
      → IsStartFor step.kit step.rid step.pos step.step (Some of) → OwnRuns session.budget step.pipeline step.kit of old new result
      → IsServedCore session sched step.pipeline old
      → IsServedCore session (sched ++ entry_of 0 (step_told session sched step.rid step.pos (Some result)) ∷ []) step.pipeline new
  own-core does of result old new for-step runs served =
      let k = kernel-of step.kit step.rid step.pos step.step of for-step in
      let J : HostStep → Type 0 = λ s. IsJobFor kit_source KitText KitCall session (state_after session sched) (job.Step step.rid step.pos step.pipeline s step.kit) in
      let R : StartOf → Type 0 = λ o. RunsKernel (program_in step.kit) step.kit.compiled.1 session.budget 0 o old new result in
      let r : RunsKernel (program_in step.kit) step.kit.compiled.1 session.budget 0 (start_of step.kit k.2 k.1 step.rid step.pos) old new result = subst R k.5 runs in
      let one = one-report result r.ran.k _ r.ran.adds.of_is refl refl r.ran.told in
      core-after-kernel session step.pipeline sched (step_told session sched step.rid step.pos (Some result)) _ old new r.ran.k one r.ran.adds
      (kernels-are-steps session sched (entry_of 0 (step_told session sched step.rid step.pos (Some result)) ∷ []) step.rid step.pos step.pipeline 0 k.2 k.0 k.1
      step.kit old.config old.history new.history r.ran.k (subst J k.3 is) k.4 does
      (kernel-session (program_in step.kit) step.kit.compiled.1 session.budget 0 _ old new result r))
      served

  -- all of them
  pub cores-after-step : DoesAs (program_in step.kit) step.kit.compiled.1 → (start : Option StartOf) (ran : Option KernelResult) (cores now : List CoreState)
      → IsStartFor step.kit step.rid step.pos step.step start → HasRun (OwnRuns session.budget) step.pipeline step.kit start ran cores now
      → AreServedCores session sched cores
      → AreServedCores session (sched ++ entry_of 0 (step_told session sched step.rid step.pos ran) ∷ []) now
  cores-after-step does (Some of) None cores now for-step run served = absurd run
  cores-after-step does None (Some result) cores now for-step run served = absurd run
  cores-after-step does None None cores now for-step same served =
      let N : List CoreState → Type 0 = λ cs. AreServedCores session (sched ++ entry_of 0 (step_told session sched step.rid step.pos None) ∷ []) cs in
      subst N (sym same) (cores-over session sched (entry_of 0 (step_told session sched step.rid step.pos None) ∷ []) cores (λ pipeline. refl) served)
  cores-after-step does (Some of) (Some result) cores now for-step changes served =
      let S : List SchedEntry = sched ++ entry_of 0 (step_told session sched step.rid step.pos (Some result)) ∷ [] in
      let N : List CoreState → Type 0 = λ cs. AreServedCores session S cs in
      subst N (sym changes.leaves) (record {
        count = length-set cores step.pipeline changes.new ∙ served.count;
        each = λ other core there. which other core (set-at cores step.pipeline other changes.new core there);
      })
    where
      own : IsServedCore session (sched ++ entry_of 0 (step_told session sched step.rid step.pos (Some result)) ∷ []) step.pipeline changes.new
      own = own-core does of result changes.old changes.new for-step changes.so (served.each step.pipeline changes.old changes.found)

      which : (other : ℕ) (core : CoreState)
          → ((other ≡ step.pipeline) × (core ≡ changes.new)) ⊎ ((other ≢ step.pipeline) × (slice_get cores other ≡ Some core))
          → IsServedCore session (sched ++ entry_of 0 (step_told session sched step.rid step.pos (Some result)) ∷ []) other core
      which other core (inl here) =
          let P : ℕ → Type 0 = λ n. IsServedCore session (sched ++ entry_of 0 (step_told session sched step.rid step.pos (Some result)) ∷ []) n core in
          let C : CoreState → Type 0 = λ c. IsServedCore session (sched ++ entry_of 0 (step_told session sched step.rid step.pos (Some result)) ∷ []) step.pipeline c in
          subst P (sym here.0) (subst C (sym here.1) own)
      which other core (inr there) =
          core-over session other sched (entry_of 0 (step_told session sched step.rid step.pos (Some result)) ∷ []) core (others-none (Some result) other there.0) (served.each other core there.1)
