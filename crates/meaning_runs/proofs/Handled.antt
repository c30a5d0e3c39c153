-- The handler that an exception goes to.
use Rattle.std.proofs.Common.{◌≡◌, Some, None, refl, sym, ap}
use Rattle.std.specs.Prelude.{Bool, true, false, bytes_eq, if◌then◌else◌}
use Rattle.std.proofs.lemmas.Option.{none-some, same_Some}
use Rattle.rtio_types.specs.declared.outcome.Exc.{Exc}
use Rattle.kern_syntax.specs.Tree.{Block, Handlers, no_handler, except_then}
use Rattle.kern_calls.specs.Types.{Scope}
use Rattle.meaning_steps.specs.Handling.{handler_of}
use Rattle.timeline_sem.specs.Actions.{State, raised, early}
use Rattle.timeline_sem.specs.Expressions.{Callee}
use Rattle.timeline_sem.specs.Statements.{block, handler, name_of_exception}

module _ (scope : Scope) (callee : Callee) (x : Exc) (s : State) where
  -- its block runs
  pub handled : (handlers : Handlers) (body : Block) → handler_of handlers x ≡ Some body → handler scope callee handlers x s ≡ block scope callee body s
  handled no_handler body is = absurd (none-some body is)
  handled (except_then line name first rest) body is = by_test (bytes_eq name (name_of_exception x)) is (λ is. handled rest body is)
    where
      by_test : (b : Bool) → (if b then Some first else handler_of rest x) ≡ Some body → (handler_of rest x ≡ Some body → handler scope callee rest x s ≡ block scope callee body s) → (if b then block scope callee first else handler scope callee rest x) s ≡ block scope callee body s
      by_test true is later = ap (λ body. block scope callee body s) (same_Some first body is)
      by_test false is later = later is

  -- without one the exception goes further
  pub unhandled : (handlers : Handlers) → handler_of handlers x ≡ None → handler scope callee handlers x s ≡ early (raised x) s
  unhandled no_handler is = refl
  unhandled (except_then line name first rest) is = by_test (bytes_eq name (name_of_exception x)) is (λ is. unhandled rest is)
    where
      by_test : (b : Bool) → (if b then Some first else handler_of rest x) ≡ None → (handler_of rest x ≡ None → handler scope callee rest x s ≡ early (raised x) s) → (if b then block scope callee first else handler scope callee rest x) s ≡ early (raised x) s
      by_test true is later = absurd (none-some first (sym is))
      by_test false is later = later is
