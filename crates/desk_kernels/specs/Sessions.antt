-- Where a session of a chair stands at a desk.
use Rattle.std.specs.Prelude.{◌≡◌, ◌⊎◌, ℕ, ℤ, List, [], ◌++◌, Vec}
use Rattle.std.specs.Global.{Global}
use mathlib.Core.List.{IsPrefix}
use Rattle.rtio_types.specs.declared.outcome.Outcome.{Outcome}
use Rattle.rtio_types.specs.declared.request.Request.{Request}
use Rattle.rtio_core.specs.declared.data.Config.{Config}
use Rattle.rtio_core.specs.declared.data.Entry.{Entry}
use Rattle.rtio_core.specs.declared.data.StartOf.{StartOf}
use Rattle.rtio_core.specs.Booked.{booked_acts}
use Rattle.rtio_core.specs.Core.{CoreState}
use Rattle.sched_state.specs.declared.entry.DataSet.{DataSet}
use Rattle.sched_state.specs.declared.entry.KernelResult.{KernelResult}
use Rattle.desk.specs.Seated.{Opened}
use Rattle.desk_rule.specs.Histories.{acts_of}
use Rattle.core_isa.specs.declared.code.Code.{Code}
use Rattle.core_session.specs.Lending.{Opening}
use Rattle.core_session.specs.Sessions.{Answered, requests_of}
use Rattle.lab_kernels.specs.CutShort.{CutsCode}
use Rattle.lab_kernels.specs.Kernels.{AreAskedAtTop, KernelRun, result_of, session_entries, sets_of}
use Rattle.lab_kernels.specs.Runs.{RunsCode}
use Rattle.lab_kernels.specs.Standing.{HasEndedOn, IsGivenUpOn, IsOpenOn}
use Rattle.desk_kernels.specs.Chairs.{CoreChair, IsAt, core_entries}
use Rattle.desk_kernels.specs.Holdings.{GoesOn, core_as_seen}
use Rattle.desk_kernels.specs.Kernels.{LeavesCore}

-- the chair, and the datasets that were set
abbrev pub Seat : Type 0
Seat = CoreChair × Vec DataSet Global

-- the chair is at the desk, and no dataset was set
abbrev pub MayBegin : Opened Config → Seat → Type 0
MayBegin desk now = IsAt desk now.0 × (now.1.items ≡ [])

-- without memory the chair has put nothing
abbrev pub IsUnstarted : Opened Config → Seat → Seat → Type 0
IsUnstarted desk old new = (new.0.own ≡ old.0.own) × GoesOn desk old.0 new.0

-- the chair found this core, which goes on from what it had seen, without an act of its own that it hadn't put; and it went on
pub record HasFound (desk : Opened Config) (first : CoreChair) (was : CoreState) (now : CoreChair) : Type 0 where
  pub config : was.config ≡ desk.fixed
  pub found : IsPrefix first.seen (booked_acts was.history)
  pub own : acts_of first.number (booked_acts was.history) ≡ first.own
  pub goes : GoesOn desk first now

-- the session is open on the core as the chair has seen it
pub record IsSeenOpen (desk : Opened Config) (o : Opening Seat) (asked : List Answered) (now : CoreChair) : Type 0 where
  pub was : CoreState
  pub found : HasFound desk o.first.0 was now
  pub on : IsOpenOn o.first.0.number was o.of o.cursor asked (core_as_seen desk.fixed now)

-- so it is, and these are the datasets that its requests set
abbrev pub IsOpenAt : Opened Config → Opening Seat → List Answered → Seat → Type 0
IsOpenAt desk o asked now = IsSeenOpen desk o asked now.0 × (now.1.items ≡ sets_of (requests_of asked))

-- Its end stands behind what the chair had seen, and with it all that was seen ends. How much later
-- than the last request it ended is left open
pub record HasEndedAt (desk : Opened Config) (o : Opening Seat) (asked : List Answered) (how : Outcome) (end : ℤ) (now : Seat) : Type 0 where
  pub was : CoreState
  pub found : HasFound desk o.first.0 was now.0
  pub at : ℕ
  pub ended : HasEndedOn o.first.0.number was o.of o.cursor asked how end (core_entries now.0.seen) at
  pub sets : now.1.items ≡ sets_of (requests_of asked)

-- or it stands at the horizon, where this request isn't decided
pub record HasGivenUpAt (desk : Opened Config) (o : Opening Seat) (asked : List Answered) (request : Request) (end : ℤ) (now : Seat) : Type 0 where
  pub was : CoreState
  pub found : HasFound desk o.first.0 was now.0
  pub at : ℕ
  pub ended : IsGivenUpOn o.first.0.number was o.of o.cursor asked request end (core_entries now.0.seen) at
  pub sets : now.1.items ≡ sets_of (requests_of asked)

-- The code was run as a session of the chair, which found a history that goes on
-- from what it had seen, without an act of its own that it hadn't put. Behind that
-- stands the session, and nothing else; and the result is that of the session
pub record RunsCodeAt (code : Code) (units : ℕ) (of : StartOf) (config : Config) (old new : CoreChair) (result : KernelResult) : Type 0 where
  pub before : List Entry
  pub k : KernelRun
  pub found : IsPrefix old.seen (booked_acts before)
  pub known : acts_of old.number (booked_acts before) ≡ old.own
  pub seen : new.seen ≡ booked_acts (before ++ session_entries old.number before k)
  pub own : new.own ≡ old.own ++ acts_of old.number (booked_acts (session_entries old.number before k))
  pub of_is : k.of ≡ of
  pub at_top : AreAskedAtTop config before (session_entries old.number before k)
  pub runs : RunsCode code units old.number config before k
  pub told : result ≡ result_of k

-- without memory the chair has put nothing, or its session of the code was cut short
abbrev pub LeavesCodeAt : Code → (units : ℕ) → StartOf → Config → CoreChair → CoreChair → Type 0
LeavesCodeAt code units of config old new =
    (new.own ≡ old.own) ⊎ LeavesCore (CutsCode code units old.number of) config old new
