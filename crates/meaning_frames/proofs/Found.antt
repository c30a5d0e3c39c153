-- A function that is found among those of a program.
use Rattle.std.proofs.Common.{◌≡◌, ◌≤◌, ◌<◌, ◌+◌, ◌*◌, ℕ, suc, [], ◌∷◌, Some, sym, subst, arith, find}
use Rattle.std.specs.Prelude.{Bool, true, false, cond}
use Rattle.std.proofs.lemmas.Option.{none-some, same_Some}
use Rattle.kern_syntax.specs.Tree.{FunctionTree, ProgramTree}
use Rattle.meaning_frames.proofs.Sizes.{block_size, program_size}
use Rattle.meaning_steps.specs.RunnableStatements.{AreRunnableFunctions, IsRunnableBlock}

-- the body of a function that is found can run
pub found_runs : (program : ProgramTree) (test : FunctionTree → Bool) (f : FunctionTree) → find test program ≡ Some f → AreRunnableFunctions program → IsRunnableBlock f.body
found_runs [] test f is run = absurd (none-some f is)
found_runs (g ∷ rest) test f is run = by_test (test g) is (λ is. found_runs rest test f is run.1)
  where
    by_test : (b : Bool) → cond b (Some g) (find test rest) ≡ Some f → (find test rest ≡ Some f → IsRunnableBlock f.body) → IsRunnableBlock f.body
    by_test true is later = subst (λ f. IsRunnableBlock f.body) (same_Some g f is) run.0
    by_test false is later = later is

-- and is smaller than the program
pub found_smaller : (program : ProgramTree) (test : FunctionTree → Bool) (f : FunctionTree) → find test program ≡ Some f → 8 + block_size f.body ≤ program_size program
found_smaller [] test f is = absurd (none-some f is)
found_smaller (g ∷ rest) test f is = by_test (test g) is (λ is. found_smaller rest test f is)
  where
    by_test : (b : Bool) → cond b (Some g) (find test rest) ≡ Some f → (find test rest ≡ Some f → 8 + block_size f.body ≤ program_size rest) → 8 + block_size f.body ≤ program_size (g ∷ rest)
    by_test true is later = subst (λ f. 8 + block_size f.body ≤ program_size (g ∷ rest)) (same_Some g f is) (omega arith)
    by_test false is later = omega (arith, later is)

-- a call of it leaves room for one less, so its body is below the call
pub room_falls : (room left size body : ℕ) → suc left ≡ room → 8 + body ≤ size → left * size + (body + 1) < room * size
room_falls room left size body is small = rw (sym is) (omega (arith, small))
