-- What a kernel leaves on a core is a session of its step.
use Rattle.std.proofs.Common.{ℕ, [], ◌++◌, sym, ap, subst, ◌∙◌, append-nil}
use Rattle.rtio_core.specs.declared.data.StartOf.{StartOf}
use Rattle.rtio_core.specs.Core.{CoreState}
use Rattle.sched_state.specs.declared.entry.KernelResult.{KernelResult}
use Rattle.sched_state.specs.Lawful.{found_step}
use Rattle.core_isa.specs.declared.code.Code.{Code}
use Rattle.kern_syntax.specs.Tree.{ProgramTree}
use Rattle.lab_kernels.specs.Kernels.{session_entries}
use Rattle.lab_kernels.specs.Meanings.{IsKernelSession, RunsKernel}
use Rattle.lab_kits.specs.Kits.{program_in}
use Rattle.lab_ties.proofs.Lasting.{for-step-last}
use Rattle.lab_ties.specs.Laws.{KernelsAreSteps}
use Rattle.lab_ties.specs.Steps.{IsForStep, start_of}

-- a kernel that was run on a core has left one session of it there
pub kernel-session : (program : ProgramTree) (code : Code) (units chair : ℕ) (of : StartOf) (old new : CoreState) (result : KernelResult)
    → (r : RunsKernel program code units chair of old new result)
    → IsKernelSession program code units chair of old.config old.history new.history r.ran.k
kernel-session program code units chair of old new result r = record {
  of_is = r.ran.adds.of_is;
  stands = r.ran.adds.history;
  at_top = r.ran.adds.at_top;
  runs = r.ran.runs;
  means = r.means;
}

pub kernels-are-steps : KernelsAreSteps
kernels-are-steps session sched more rid place pipeline chair function name args kit config before after k (run, found, in_pipeline, step_is, kit_is) f does s =
    let first : IsForStep session (program_in kit) sched pipeline (start_of kit function args rid place) = record {
      run = run;
      found = found;
      in_pipeline = in_pipeline;
      source = kit_is.same;
      name = name;
      step = sym (ap (found_step session place) found) ∙ step_is;
      text = kit_is.text.0;
      text_is = kit_is.text.1;
      is_kernel = kit_is.text.2;
      function = f;
    } in
    record {
      program = program_in kit;
      for_step =
          for-step-last session (program_in kit) sched more pipeline k.of
          (subst (λ (o : StartOf). IsForStep session (program_in kit) sched pipeline o) (sym s.of_is) first);
      is_session = record {
        before = before;
        after = [];
        stands = s.stands ∙ sym (append-nil (before ++ session_entries chair before k));
        at_top = s.at_top;
        means = s.means;
        code = kit.compiled.1;
        does = does;
        counts = s.runs;
      };
    }
