-- The function that runs first.
use Rattle.std.proofs.Common.{◌≡◌, ℕ, zero, suc, [], ◌∷◌, Option, Some, None, Bor, slice_get, option_map, sym, subst}
use Rattle.std.specs.Prelude.{IfSome}
use Rattle.std.proofs.lemmas.Option.{none-some, same_Some}
use Rattle.kern_syntax.specs.declared.program.Function.{Function}
use Rattle.kern_syntax.specs.Tree.{FunctionTree, ProgramTree}
use Rattle.kern_syntax.specs.TreeOf.{block_of, function_of}
use Rattle.meaning_steps.specs.RunnableStatements.{AreRunnableFunctions, IsRunnableBlock}

-- each function's body can run
at_runs : (program : ProgramTree) (k : ℕ) (f : FunctionTree) → slice_get program k ≡ Some f → AreRunnableFunctions program → IsRunnableBlock f.body
at_runs [] k f is run = absurd (none-some f is)
at_runs (g ∷ rest) zero f is run = subst (λ f. IsRunnableBlock f.body) (same_Some g f is) run.0
at_runs (g ∷ rest) (suc k) f is run = at_runs rest k f is run.1

-- so can that of the first, if there is one
pub first_runs : (program : ProgramTree) (k : ℕ) (first : Option (Bor Function)) → option_map (λ f. function_of f.now) first ≡ slice_get program k → AreRunnableFunctions program → IfSome first (λ f. IsRunnableBlock (block_of f.now.body))
first_runs program k None is run = tt
first_runs program k (Some f) is run = at_runs program k (function_of f.now) (sym is) run
