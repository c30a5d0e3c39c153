-- What becomes of a request that is asked until it is decided.
use Rattle.std.specs.Prelude.{◌≡◌, ◌⊎◌, ℕ, ◌≤◌, Option, Some, None, IsSome}
use Rattle.rtio_types.specs.declared.request.Request.{Request}
use Rattle.rtio_types.specs.declared.request.Reply.{Reply}
use Rattle.rtio_types.specs.declared.request.Waiting.{Waiting}
use Rattle.rtio_types.specs.Requests.{request_waiting}
use Rattle.rtio_core.specs.Calls.{answered}
use Rattle.rtio_core.specs.Core.{CoreState}
use Rattle.rtio_core.specs.Reply.{reply_to}
use Rattle.rtio_core.specs.Top.{top}

-- the core has only ticked; which request waits is left open
pub record IsLater (old new : CoreState) : Type 0 where
  pub is : new ≡ record old { counter = new.counter; waiting = new.waiting }
  pub later : old.counter ≤ new.counter

-- this request waits
abbrev pub WaitsFor : CoreState → Request → Type 0
WaitsFor core request = (w : Waiting) × (core.waiting ≡ Some w) × (request_waiting w ≡ request)

-- it got this reply at the greatest counter that it may have
pub record IsAnswered (old : CoreState) (chair : ℕ) (request : Request) (reply : Reply) (new : CoreState) : Type 0 where
  pub at : ℕ
  pub later : old.counter ≤ at
  pub at_top : at ≡ top old.config old.history (Some request)
  pub right : reply_to old.config old.history request at ≡ Some reply
  pub leaves : new ≡ answered (record old { counter = at }) chair request reply

-- it isn't decided at the horizon, where the counter is then
pub record IsNeverAnswered (old : CoreState) (request : Request) (new : CoreState) : Type 0 where
  pub undecided : reply_to old.config old.history request old.config.horizon ≡ None
  pub last : new.counter ≡ old.config.horizon
  pub later : IsLater old new

abbrev pub IsDecided : CoreState → (chair : ℕ) → Request → Option Reply → CoreState → Type 0
IsDecided old chair request (Some reply) new = IsAnswered old chair request reply new
IsDecided old chair request None new = IsNeverAnswered old request new

-- It has no reply yet, and would get one here, at the greatest counter that it may
-- have. It began to wait only if it wasn't decided where the core stops without it
pub record IsHeldUp (old : CoreState) (request : Request) (new : CoreState) : Type 0 where
  pub later : IsLater old new
  pub at_top : new.counter ≡ top old.config old.history (Some request)
  pub decided : IsSome (reply_to old.config old.history request new.counter)
  pub waits : (new.waiting ≡ old.waiting) ⊎ ((reply_to old.config old.history request (top old.config old.history None) ≡ None) × WaitsFor new request)
