-- A session on a core of one's own.
use Rattle.std.specs.Prelude.{◌≡◌, ℕ, List, [], ℤ, None, Vec}
use Rattle.std.specs.Global.{Global}
use Rattle.rtio_types.specs.declared.outcome.Outcome.{Outcome}
use Rattle.rtio_types.specs.declared.request.Request.{Request}
use Rattle.rtio_core.specs.Core.{CoreState}
use Rattle.rtio_core.specs.Entries.{last_at, open_session}
use Rattle.sched_state.specs.declared.entry.DataSet.{DataSet}
use Rattle.core_session.specs.Lending.{Opening}
use Rattle.core_session.specs.Sessions.{Answered, requests_of}
use Rattle.lab_kernels.specs.Kernels.{sets_of}
use Rattle.lab_kernels.specs.Standing.{HasEndedOn, IsGivenUpOn, IsHeldOn, IsOpenOn, history_of}

-- the core, and the datasets that were set
abbrev pub Own : Type 0
Own = CoreState × Vec DataSet Global

-- no session is open, and no dataset was set
abbrev pub MayBegin : Own → Type 0
MayBegin now = (open_session now.0.history ≡ None) × (now.1.items ≡ [])

-- the session is open, and these are the datasets that its requests set
abbrev pub IsOwnOpen : (chair : ℕ) → Opening Own → List Answered → Own → Type 0
IsOwnOpen chair o asked now =
    IsOpenOn chair o.first.0 o.of o.cursor asked now.0 × (now.1.items ≡ sets_of (requests_of asked))

-- it has ended, with no tick since its last request
pub record IsOwnEnded (chair : ℕ) (o : Opening Own) (asked : List Answered) (how : Outcome) (end : ℤ) (now : Own) : Type 0 where
  pub ended : HasEndedOn chair o.first.0 o.of o.cursor asked how end now.0.history now.0.counter
  pub config : now.0.config ≡ o.first.0.config
  pub waiting : now.0.waiting ≡ None
  pub prompt : now.0.counter ≡ last_at (history_of chair o.first.0 o.of o.cursor asked)
  pub sets : now.1.items ≡ sets_of (requests_of asked)

-- or at the horizon, where this request isn't decided
pub record IsOwnGivenUp (chair : ℕ) (o : Opening Own) (asked : List Answered) (request : Request) (end : ℤ) (now : Own) : Type 0 where
  pub ended : IsGivenUpOn chair o.first.0 o.of o.cursor asked request end now.0.history now.0.counter
  pub config : now.0.config ≡ o.first.0.config
  pub waiting : now.0.waiting ≡ None
  pub sets : now.1.items ≡ sets_of (requests_of asked)

-- without memory its next request wasn't answered
abbrev pub IsOwnHeld : (chair : ℕ) → Opening Own → List Answered → Request → Own → Type 0
IsOwnHeld chair o asked request now = IsHeldOn chair o.first.0 o.of o.cursor asked request now.0
