-- The kit of a run, and that there is none.
use Rattle.std.proofs.Common.{◌≡◌, ℕ, ◌<◌, List, length, [], ◌∷◌, Some, None, refl, sym, ap, subst, ◌∙◌}
use Rattle.std.specs.Prelude.{true, nat_lt, slice_get, slice_index_or, is_some, unwrap_or}
use Rattle.std.specs.List.{AllByRecursion}
use Rattle.std.proofs.lemmas.Bool.{false≢true, ltb-true}
use Rattle.std.proofs.lemmas.Option.{slice_get_read}
use Rattle.kern_syntax.specs.Tree.{Bytes, ProgramTree}
use Rattle.kern_accepted.specs.Refusals.{IsEndOf}
use Rattle.kern_accepted.specs.Texts.{IsKernelText}
use Rattle.kern_accepted.specs.declared.end.KernelEnd.{KernelEnd}
use Rattle.kern_accepted.specs.declared.end.KernelEnd.TheVariants as K
use Rattle.kern_accepted.proofs.Kernels.{none-refused, one-program}
use Rattle.exp_runs.specs.declared.run.Run.{Run}
use Rattle.exp_model.specs.declared.session.Experiment.{Experiment}
use Rattle.exp_model.specs.declared.session.Session.{Session}
use Rattle.exp_model.specs.declared.step.HostStep.{HostStep}
use Rattle.exp_model.specs.declared.step.HostStep.TheVariants as step
use Rattle.sched_state.specs.Reports.{run_steps, steps_in}
use Rattle.sched_core.specs.Scheds.{HasCall, found_source, source_of_run}
use Rattle.lab_kits.specs.declared.kit.Kit.{Kit}
use Rattle.lab_kits.specs.Accepted.{IsAccepted}
use Rattle.lab_kits.specs.Calls.{HasCallOf}
use Rattle.lab_kits.specs.Ends.{IsEndFor, end_of_kernel}
use Rattle.lab_kits.specs.Kits.{IsKitOf, KitCall, program_in}

-- an item that a list has at a place, where it is read off another
pub found-at : {A : Type 0} (items xs : List A) (k : ℕ) (x : A) → items ≡ xs → true ≡ nat_lt k (length items) → x ≡ slice_index_or items k x → slice_get xs k ≡ Some x
found-at items xs k x same within is =
    let below : k < length items = ltb-true k (length items) (sym within) in
    subst (λ l. slice_get l k ≡ Some x) same (slice_get_read items (length items) k x refl below is)

-- a kit has a call where its program has it
kit-has : (kit : Kit) (what : HostStep) → HasCall HasCallOf (program_in kit) what → HasCall KitCall kit what
kit-has kit (step.Kernel name args) has = has
kit-has kit step.Pause has = tt
kit-has kit step.CheckTermination has = tt
kit-has kit (step.Set name value broadcast persist archive) has = tt
kit-has kit (step.Append name value) has = tt
kit-has kit (step.Sum name into) has = tt
kit-has kit (step.Submit asked) has = tt

kit-has-all : (kit : Kit) (steps : List HostStep) → AllByRecursion (HasCall HasCallOf (program_in kit)) steps → AllByRecursion (HasCall KitCall kit) steps
kit-has-all kit [] all = tt
kit-has-all kit (what ∷ rest) all = (kit-has kit what all.0, kit-has-all kit rest all.1)

module _ (session : Session) (run : Run) where
  -- a run whose experiment isn't there has no source
  pub no-experiment : slice_get session.experiments run.experiment ≡ None → IsAccepted session run → ⊥
  no-experiment missing accepted =
      false≢true (ap is_some (sym (ap found_source missing) ∙ accepted.source_is))

  module _ (e : Experiment) (there : slice_get session.experiments run.experiment ≡ Some e) where
    source-is : source_of_run session run ≡ Some e.source
    source-is = ap found_source there

    steps-are : run_steps session run ≡ e.run
    steps-are = ap (steps_in (λ (x : Experiment). x.run)) there

    accepted-text : (accepted : IsAccepted session run) → slice_get session.sources e.source ≡ Some accepted.text
    accepted-text accepted =
        let same : accepted.source ≡ e.source = ap (λ o. unwrap_or o e.source) (sym accepted.source_is ∙ source-is) in
        subst (λ (k : ℕ). slice_get session.sources k ≡ Some accepted.text) same accepted.text_is

    -- nor is it accepted where its source isn't there
    pub no-source : slice_get session.sources e.source ≡ None → IsAccepted session run → ⊥
    no-source missing accepted = false≢true (ap is_some (sym missing ∙ accepted-text accepted))

    module _ (text : Bytes) (found : slice_get session.sources e.source ≡ Some text) where
      same-text : (accepted : IsAccepted session run) → accepted.text ≡ text
      same-text accepted = ap (λ o. unwrap_or o text) (sym (accepted-text accepted) ∙ found)

      accepted-kernel : (accepted : IsAccepted session run) → IsKernelText text accepted.program
      accepted-kernel accepted = subst (λ (t : Bytes). IsKernelText t accepted.program) (same-text accepted) accepted.is_kernel

      -- nor where its text is no kernel's
      pub text-end : (end : KernelEnd) → IsEndOf text end → IsEndFor (IsAccepted session run) (end_of_kernel end)
      text-end (K.Refused refusal) why = λ accepted. none-refused text refusal why accepted.program (accepted-kernel accepted)
      text-end K.Memory why = tt

      module _ (program : ProgramTree) (kernel : IsKernelText text program) where
        -- nor where a step calls no function of the kernel
        pub calls-end : (AllByRecursion (HasCall HasCallOf program) e.run → ⊥) → IsAccepted session run → ⊥
        calls-end lacks accepted =
            let same : program ≡ accepted.program = one-program text program accepted.program kernel.is_text (accepted-kernel accepted).is_text in
            let own : AllByRecursion (HasCall HasCallOf program) (run_steps session run) =
            subst (λ (p : ProgramTree). AllByRecursion (HasCall HasCallOf p) (run_steps session run)) (sym same) accepted.calls in
            lacks (subst (AllByRecursion (HasCall HasCallOf program)) steps-are own)

        -- else it is
        pub accepted-is : AllByRecursion (HasCall HasCallOf program) e.run → IsAccepted session run
        accepted-is all = record {
          source = e.source;
          source_is = source-is;
          text = text;
          text_is = found;
          program = program;
          is_kernel = kernel;
          calls = subst (AllByRecursion (HasCall HasCallOf program)) (sym steps-are) all;
        }

      -- and a kit of its source and its kernel is one for it
      pub kit-is : (kit : Kit) → kit.source ≡ e.source → IsKernelText text (program_in kit) → AllByRecursion (HasCall HasCallOf (program_in kit)) e.run → IsKitOf session run kit
      kit-is kit same kernel all = record {
        same = source-is ∙ ap Some (sym same);
        text = (text, subst (λ (k : ℕ). slice_get session.sources k ≡ Some text) (sym same) found, kernel);
        calls = subst (AllByRecursion (HasCall KitCall kit)) (sym steps-are) (kit-has-all kit e.run all);
      }
