-- What a chair knows of a core between two holdings, and what a holding leaves.
use Rattle.std.specs.Prelude.{◌≡◌, ℕ, ℤ, Option, Some, None, Bool, true, false, ◌++◌, ◌∷◌, []}
use mathlib.Core.List.{IsPrefix}
use Rattle.rtio_types.specs.declared.outcome.Outcome.{Outcome}
use Rattle.rtio_types.specs.declared.outcome.Outcome.TheVariants as outcome
use Rattle.rtio_types.specs.declared.request.Reply.{Reply}
use Rattle.rtio_types.specs.declared.request.Request.{Request}
use Rattle.rtio_core.specs.declared.data.Act.TheVariants.{End}
use Rattle.rtio_core.specs.declared.data.Config.{Config}
use Rattle.rtio_core.specs.declared.data.StartOf.{StartOf}
use Rattle.rtio_core.specs.Booked.{booked_acts}
use Rattle.rtio_core.specs.Calls.{ended, started}
use Rattle.rtio_core.specs.Core.{CoreState, IsCore}
use Rattle.rtio_core.specs.Entries.{last_at, last_cursor}
use Rattle.rtio_core.specs.Lawful.{AreFitting}
use Rattle.desk.specs.Seated.{Opened}
use Rattle.desk_rule.specs.Histories.{acts_of}
use Rattle.core_session.specs.Sessions.{entry_of}
use Rattle.core_session.specs.declared.turn.Turn.{Turn}
use Rattle.core_session.specs.declared.turn.Turn.TheVariants.{Replied, Again, Over}
use Rattle.lab_kernels.specs.Decided.{IsAnswered, IsLater, IsNeverAnswered}
use Rattle.desk_kernels.specs.Chairs.{CoreChair, IsAt, KnowsItsOwn, core_entries}
use Rattle.desk_kernels.specs.declared.starting.Opening.{Opening}
use Rattle.desk_kernels.specs.declared.starting.Opening.TheVariants.{Begun, Busy}

-- the core as far as the chair knows it: with the history that it
-- has seen, at the counter of the last entry, and no request waits
abbrev pub core_as_seen : Config → CoreChair → CoreState
core_as_seen config c = record { config = config; history = core_entries c.seen; counter = last_at (core_entries c.seen); waiting = None }

-- the chair is at the desk and holds nothing; of its own it has seen
-- just what it put; and what it has seen could be asked of a core
pub record IsReady (desk : Opened Config) (c : CoreChair) : Type 0 where
  pub at : IsAt desk c
  pub knows : KnowsItsOwn c
  pub fitting : AreFitting (core_entries c.seen)

-- it is the same chair, has seen more, and is ready
pub record GoesOn (desk : Opened Config) (old new : CoreChair) : Type 0 where
  pub number : new.number ≡ old.number
  pub later : IsPrefix old.seen new.seen
  pub ready : IsReady desk new

-- In one holding the chair found a core that was so, which goes on from what it had
-- seen, without an act of its own that it hadn't put; and it put the core back so
pub record Holds (desk : Opened Config) (old : CoreChair) (was now : CoreState) (new : CoreChair) : Type 0 where
  pub known : IsCore was
  pub config : was.config ≡ desk.fixed
  pub found : IsPrefix old.seen (booked_acts was.history)
  pub own : acts_of old.number (booked_acts was.history) ≡ old.own
  pub seen : new.seen ≡ booked_acts now.history
  pub goes : GoesOn desk old new

-- a session of the chair has begun on the core that it found, at this cursor
pub record HasStarted (desk : Opened Config) (old : CoreChair) (of : StartOf) (cursor : ℤ) (new : CoreChair) : Type 0 where
  pub was : CoreState
  pub now : CoreState
  pub holds : Holds desk old was now new
  pub from : cursor ≡ last_cursor was.history
  pub leaves : now ≡ started was old.number of cursor

-- what a try to start a session does to the core: it has begun, or what it was for is handed back
abbrev pub OpensCore : CoreState → (chair : ℕ) → StartOf → Opening → CoreState → Type 0
OpensCore old chair of (Begun cursor) new = (cursor ≡ last_cursor old.history) × (new ≡ started old chair of cursor)
OpensCore old chair of (Busy back) new = (back ≡ of) × (new ≡ old)

-- the same at the desk; where the session hasn't begun the chair put nothing
abbrev pub Opens : Opened Config → CoreChair → StartOf → Opening → CoreChair → Type 0
Opens desk old of (Begun cursor) new = HasStarted desk old of cursor new
Opens desk old of (Busy back) new = (back ≡ of) × (new.own ≡ old.own)

-- what became of a request on the core, in one holding
abbrev pub IsHeldTurn : CoreState → (chair : ℕ) → Request → Turn → CoreState → Type 0
IsHeldTurn old chair request (Replied reply) new = IsAnswered old chair request reply new
IsHeldTurn old chair request (Again back) new = (back ≡ request) × IsLater old new
IsHeldTurn old chair request Over new = IsNeverAnswered old request new

-- the same, where a request that isn't decided at the horizon has ended the session
abbrev pub IsTurnOrEnd : CoreState → (chair : ℕ) → Request → ℤ → Turn → CoreState → Type 0
IsTurnOrEnd old chair request cursor (Replied reply) new = IsAnswered old chair request reply new
IsTurnOrEnd old chair request cursor (Again back) new = (back ≡ request) × (new.history ≡ old.history)
IsTurnOrEnd old chair request cursor Over new = (mid : CoreState) × IsNeverAnswered old request mid × (new ≡ ended mid chair outcome.Horizon cursor)

-- the request isn't decided at the horizon, and there the session has ended
pub record IsGivenUp (config : Config) (old : CoreChair) (request : Request) (cursor : ℤ) (new : CoreChair) : Type 0 where
  pub last : CoreState
  pub never : IsNeverAnswered (core_as_seen config old) request last
  pub leaves : core_as_seen config new ≡ ended last old.number outcome.Horizon cursor

-- the same as the chair has seen it
abbrev pub IsTurnAt : Config → CoreChair → Request → ℤ → Turn → CoreChair → Type 0
IsTurnAt config old request cursor (Replied reply) new = IsAnswered (core_as_seen config old) old.number request reply (core_as_seen config new)
IsTurnAt config old request cursor (Again back) new = (back ≡ request) × (new.seen ≡ old.seen)
IsTurnAt config old request cursor Over new = IsGivenUp config old request cursor new

-- a request got this reply, or it never does
abbrev pub IsDecidedAt : Config → CoreChair → Request → ℤ → Option Reply → CoreChair → Type 0
IsDecidedAt config old request cursor (Some reply) new = IsAnswered (core_as_seen config old) old.number request reply (core_as_seen config new)
IsDecidedAt config old request cursor None new = IsGivenUp config old request cursor new

-- what a try to end a session does to the core: it has ended, or it hasn't, since a request waits
abbrev pub EndsOrWaits : CoreState → (chair : ℕ) → Outcome → ℤ → (done : Bool) → CoreState → Type 0
EndsOrWaits old chair how cursor true new = new ≡ ended old chair how cursor
EndsOrWaits old chair how cursor false new = new ≡ old

-- the chair has seen just the session's end more
abbrev pub HasPutEnd : CoreChair → Outcome → ℤ → CoreChair → Type 0
HasPutEnd old how cursor new = (at : ℕ) × (core_entries new.seen ≡ core_entries old.seen ++ entry_of old.number (End how cursor at) ∷ [])

-- so it has, or a request waits and the chair has seen nothing new
abbrev pub MayPutEnd : CoreChair → Outcome → ℤ → (done : Bool) → CoreChair → Type 0
MayPutEnd old how cursor true new = HasPutEnd old how cursor new
MayPutEnd old how cursor false new = new.seen ≡ old.seen
