-- The handler that an exception goes to.
use Rattle.std.proofs.Common.{◌≡◌, ◌≤◌, ◌+◌, Some, subst, arith}
use Rattle.std.specs.Prelude.{Bool, true, false, bytes_eq, if◌then◌else◌}
use Rattle.std.proofs.lemmas.Option.{none-some, same_Some}
use Rattle.rtio_types.specs.declared.outcome.Exc.{Exc}
use Rattle.kern_syntax.specs.Tree.{Block, Handlers, no_handler, except_then}
use Rattle.meaning_frames.proofs.Sizes.{block_size, handlers_size}
use Rattle.meaning_steps.specs.Handling.{handler_of}
use Rattle.meaning_steps.specs.RunnableStatements.{AreRunnableHandlers, IsRunnableBlock}
use Rattle.timeline_sem.specs.Statements.{name_of_exception}

-- its block can run
pub handled_runs : (handlers : Handlers) (x : Exc) (body : Block) → handler_of handlers x ≡ Some body → AreRunnableHandlers handlers → IsRunnableBlock body
handled_runs no_handler x body is run = absurd (none-some body is)
handled_runs (except_then line name first rest) x body is run = by_test (bytes_eq name (name_of_exception x)) is (λ is. handled_runs rest x body is run.1)
  where
    by_test : (b : Bool) → (if b then Some first else handler_of rest x) ≡ Some body → (handler_of rest x ≡ Some body → IsRunnableBlock body) → IsRunnableBlock body
    by_test true is later = subst IsRunnableBlock (same_Some first body is) run.0
    by_test false is later = later is

-- and is smaller than the handlers
pub handled_smaller : (handlers : Handlers) (x : Exc) (body : Block) → handler_of handlers x ≡ Some body → 8 + block_size body ≤ handlers_size handlers
handled_smaller no_handler x body is = absurd (none-some body is)
handled_smaller (except_then line name first rest) x body is = by_test (bytes_eq name (name_of_exception x)) is (λ is. handled_smaller rest x body is)
  where
    by_test : (b : Bool) → (if b then Some first else handler_of rest x) ≡ Some body → (handler_of rest x ≡ Some body → 8 + block_size body ≤ handlers_size rest) → 8 + block_size body ≤ handlers_size (except_then line name first rest)
    by_test true is later = subst (λ body. 8 + block_size body ≤ handlers_size (except_then line name first rest)) (same_Some first body is) (omega arith)
    by_test false is later = omega (arith, later is)
