-- The functions of a suited program can run.
use Rattle.std.proofs.Common.{◌≡◌, ℕ, zero, suc, [], ◌∷◌, slice_get, Some, refl}
use Rattle.std.specs.Prelude.{true, false}
use Rattle.kern_syntax.specs.Spellable.{IsSpellableProgram}
use Rattle.kern_syntax.specs.Tree.{FunctionTree, ProgramTree}
use Rattle.kern_types.specs.Programs.{IsTyped}
use Rattle.code_forms.specs.Programs.{setting_of, plain_names}
use Rattle.code_forms.specs.Suited.{IsSuitedProgram}
use Rattle.code_forms.specs.Texts.{texts_of}
use Rattle.code_suited.proofs.Functions.{typed_is_suited}
use Rattle.meaning_steps.specs.RunnableStatements.{AreRunnableFunctions, IsRunnableBlock}
use Rattle.meaning_runnable.proofs.Runs.{block_runs}

-- functions whose bodies can run
each_function : (fs : ProgramTree) → ((k : ℕ) (f : FunctionTree) → slice_get fs k ≡ Some f → IsRunnableBlock f.body) → AreRunnableFunctions fs
each_function [] run = tt
each_function (f ∷ fs) run = (run zero f refl, each_function fs (λ k g is. run (suc k) g is))

-- those of a suited program
suited_can_run : (program : ProgramTree) → IsSuitedProgram program → AreRunnableFunctions program
suited_can_run program suited =
    each_function program (λ k f is. block_runs (setting_of program (texts_of program) f) (plain_names [] program) false true false f.body (suited k f is).0)

-- and of a typed one, whose integers are those of tokens
pub typed_can_run : (program : ProgramTree) → IsSpellableProgram program → IsTyped program → AreRunnableFunctions program
typed_can_run program spellable typed = suited_can_run program (typed_is_suited program spellable typed)
