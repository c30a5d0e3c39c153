-- What is left of a block behind its front.
use Rattle.std.proofs.Common.{◌≡◌, ◌≤◌, ◌+◌, ℕ, zero, suc, List, [], ◌∷◌, drop, ap, subst, arith}
use Rattle.kern_syntax.specs.declared.statement.Stmt.{Stmt}
use Rattle.kern_syntax.specs.TreeOf.{lines_of, statement_of}
use Rattle.meaning_frames.proofs.Sizes.{block_size, statement_size}
use Rattle.meaning_steps.specs.RunnableStatements.{IsRunnableBlock}
use Rattle.slack_steps.proofs.Leading.{line_before}

-- it is no larger than the block
pub left_smaller : (lines : List Stmt) (ran : ℕ) → block_size (lines_of (drop ran lines)) ≤ block_size (lines_of lines)
left_smaller lines zero = omega arith
left_smaller [] (suc ran) = omega arith
left_smaller (line ∷ rest) (suc ran) =
    let whole : block_size (lines_of (line ∷ rest)) ≡ 8 + (statement_size (statement_of line.kind) + block_size (lines_of rest)) = ap block_size (line_before line (lines_of rest)) in
    omega (arith, whole, left_smaller rest ran)

-- and can run
pub left_runs : (lines : List Stmt) (ran : ℕ) → IsRunnableBlock (lines_of lines) → IsRunnableBlock (lines_of (drop ran lines))
left_runs lines zero run = run
left_runs [] (suc ran) run = run
left_runs (line ∷ rest) (suc ran) run = left_runs rest ran (subst IsRunnableBlock (line_before line (lines_of rest)) run).1
