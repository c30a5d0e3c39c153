-- A session that want of memory cuts short.
use Rattle.std.specs.Prelude.{◌≡◌, ◌⊎◌, ℕ, ◌≤◌, List, [], ◌++◌, Some, None, IsSome, FitsSigned}
use Rattle.std.specs.Int.{w64}
use Rattle.rtio_types.specs.declared.request.Request.{Request}
use Rattle.rtio_core.specs.declared.data.StartOf.{StartOf}
use Rattle.rtio_core.specs.Core.{CoreState}
use Rattle.rtio_core.specs.Entries.{last_at, last_cursor}
use Rattle.rtio_core.specs.Reply.{reply_to}
use Rattle.rtio_core.specs.Top.{top}
use Rattle.core_isa.specs.declared.code.Code.{Code}
use Rattle.core_isa.specs.WellAsked.{RepliesFit}
pub use Rattle.core_session.specs.Asking.{AreAsked, CodeAsks, LacksReply}
use Rattle.core_session.specs.Scripts.{HaveNumbers}
use Rattle.core_session.specs.Sessions.{Answered, beginning_of, open_entries, replies_of, requests_of}
use Rattle.lab_kernels.specs.Decided.{WaitsFor}
use Rattle.lab_kernels.specs.Kernels.{AreAskedAtTop}

-- ---- where the core stands

-- The request would get its reply now, at the greatest counter that it may have. It
-- waits only if it wasn't decided where the core stops without it; nothing else waits
pub record IsDue (core : CoreState) (request : Request) : Type 0 where
  pub at_top : core.counter ≡ top core.config core.history (Some request)
  pub decided : IsSome (reply_to core.config core.history request core.counter)
  pub waits : (core.waiting ≡ None) ⊎ ((reply_to core.config core.history request (top core.config core.history None) ≡ None) × WaitsFor core request)

-- it waits at the horizon, where it isn't decided
pub record IsInVain (core : CoreState) (request : Request) : Type 0 where
  pub last : core.counter ≡ core.config.horizon
  pub undecided : reply_to core.config core.history request core.config.horizon ≡ None
  pub waits : WaitsFor core request

-- nothing waits and the core hasn't ticked since its last entry, or the request that is asked next has no reply yet
abbrev pub IsStopped : (Asks : Request → Type 0) → CoreState → Type 0
IsStopped Asks core =
    ((core.counter ≡ last_at core.history) × (core.waiting ≡ None))
    ⊎ ((request : Request) × Asks request × (IsDue core request ⊎ IsInVain core request))

-- ---- the session

-- The history has grown by the start of a session for this and by answered requests, and by no end. Each request is the
-- one that is asked next behind those before, and stands at its top
pub record IsCutShort (Asks : List Answered → Request → Type 0) (chair : ℕ) (of : StartOf) (old new : CoreState) : Type 0 where
  pub asked : List Answered
  pub history : new.history ≡ old.history ++ open_entries chair of (last_cursor old.history) old.counter asked
  pub config : new.config ≡ old.config
  pub later : old.counter ≤ new.counter
  pub at_top : AreAskedAtTop old.config old.history (open_entries chair of (last_cursor old.history) old.counter asked)
  pub asks : AreAsked Asks [] asked
  pub stands : IsStopped (Asks asked) new

-- so it is with the requests of the run of the code. The replies fit their
-- requests, and their numbers and the cursor at which the run began are of 64 bits
pub record CutsCode (code : Code) (units chair : ℕ) (of : StartOf) (old new : CoreState) : Type 0 where
  pub cut : IsCutShort (CodeAsks code (beginning_of of units old)) chair of old new
  pub fit : RepliesFit (requests_of cut.asked) (replies_of cut.asked)
  pub numbers : HaveNumbers (replies_of cut.asked)
  pub from : FitsSigned w64 (last_cursor old.history)

-- without memory the core is as before, or its session of the code was cut short
abbrev pub LeavesCode : Code → (units chair : ℕ) → StartOf → CoreState → CoreState → Type 0
LeavesCode code units chair of old new = (new ≡ old) ⊎ CutsCode code units chair of old new
