-- What becomes of a request while its chair holds the core once.
use Rattle.std.specs.Prelude.{◌≡◌, ◌≢◌, ◌⊎◌, ℕ, ◌+◌, ◌-◌, ◌<◌, min, Some, None}
use Rattle.rtio_types.specs.declared.request.Request.{Request}
use Rattle.rtio_types.specs.declared.request.Reply.{Reply}
use Rattle.rtio_types.specs.declared.request.Waiting.{Waiting}
use Rattle.rtio_types.specs.Requests.{request_waiting}
use Rattle.rtio_core.specs.Calls.{NoOtherWaits, answered}
use Rattle.rtio_core.specs.Core.{CoreState, core_top}
use Rattle.rtio_core.specs.Reply.{reply_to}
use Rattle.rtio_core.specs.Top.{top}
use Rattle.core_session.specs.declared.turn.Turn.{Turn}
use Rattle.core_session.specs.declared.turn.Turn.TheVariants.{Replied, Again, Over}

-- the core after the ticks of one holding: up to where it is stopped, but at most 4,096
abbrev pub ticked_on : CoreState → CoreState
ticked_on core = record core { counter = core.counter + min 4096 (core_top core - core.counter) }

-- the same core with a request that waits
abbrev pub waits_with : CoreState → Waiting → CoreState
waits_with core waiting = record core { waiting = Some waiting }

-- after these ticks it isn't stopped yet
abbrev pub TicksOn : CoreState → CoreState → Type 0
TicksOn old new = ((ticked_on old).counter < core_top old) × (new ≡ ticked_on old)

-- it is stopped, below the horizon, and the request isn't decided there: from now on it waits, as it didn't before
pub record BeginsToWait (old : CoreState) (request : Request) (new : CoreState) : Type 0 where
  pub stopped : (ticked_on old).counter ≡ core_top old
  pub early : (ticked_on old).counter < old.config.horizon
  pub undecided : reply_to old.config old.history request (ticked_on old).counter ≡ None
  pub idle : old.waiting ≡ None
  pub waiting : Waiting
  pub same : request_waiting waiting ≡ request
  pub leaves : new ≡ waits_with (ticked_on old) waiting

-- it is stopped, and another request waits
pub record AnotherWaits (old : CoreState) (request : Request) (new : CoreState) : Type 0 where
  pub stopped : (ticked_on old).counter ≡ core_top old
  pub waiting : Waiting
  pub is : old.waiting ≡ Some waiting
  pub differs : request_waiting waiting ≢ request
  pub leaves : new ≡ ticked_on old

-- the request got its reply as late as it may, and the entry is all that was added
pub record IsReplied (old : CoreState) (chair : ℕ) (request : Request) (reply : Reply) (new : CoreState) : Type 0 where
  pub free : NoOtherWaits old.waiting request
  pub at_top : (ticked_on old).counter ≡ top old.config old.history (Some request)
  pub right : reply_to old.config old.history request (ticked_on old).counter ≡ Some reply
  pub leaves : new ≡ answered (ticked_on old) chair request reply

-- the request isn't decided at the horizon, where the counter stands
pub record IsUndecided (old : CoreState) (request : Request) (new : CoreState) : Type 0 where
  pub free : NoOtherWaits old.waiting request
  pub last : (ticked_on old).counter ≡ old.config.horizon
  pub undecided : reply_to old.config old.history request old.config.horizon ≡ None
  pub waiting : Waiting
  pub same : request_waiting waiting ≡ request
  pub leaves : new ≡ waits_with (ticked_on old) waiting

-- what the answer says, and what the core is then. A request that
-- has to be asked again is handed back, and no entry was added
abbrev pub IsTurn : CoreState → (chair : ℕ) → Request → Turn → CoreState → Type 0
IsTurn old chair request (Replied reply) new = IsReplied old chair request reply new
IsTurn old chair request (Again back) new =
    (back ≡ request) × (TicksOn old new ⊎ (BeginsToWait old request new ⊎ AnotherWaits old request new))
IsTurn old chair request Over new = IsUndecided old request new
