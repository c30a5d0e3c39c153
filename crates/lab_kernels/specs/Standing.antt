-- Where a session of a chair stands on a core, at whose head no request waits.
use Rattle.std.specs.Prelude.{◌≡◌, ◌⊎◌, ℕ, ◌≤◌, List, [], ◌∷◌, ◌++◌, ℤ, None}
use Rattle.rtio_types.specs.declared.outcome.Outcome.{Outcome}
use Rattle.rtio_types.specs.declared.outcome.Outcome.TheVariants as outcome
use Rattle.rtio_types.specs.declared.request.Request.{Request}
use Rattle.rtio_core.specs.declared.data.Act.TheVariants.{End}
use Rattle.rtio_core.specs.declared.data.Entry.{Entry}
use Rattle.rtio_core.specs.declared.data.StartOf.{StartOf}
use Rattle.rtio_core.specs.Core.{CoreState}
use Rattle.rtio_core.specs.Entries.{last_at, last_cursor}
use Rattle.rtio_core.specs.Reply.{reply_to}
use Rattle.core_session.specs.Sessions.{Answered, entry_of, open_entries}
use Rattle.lab_kernels.specs.CutShort.{IsDue, IsInVain}
use Rattle.lab_kernels.specs.Kernels.{AreAskedAtTop}

module _ (chair : ℕ) (before : CoreState) (of : StartOf) (cursor : ℤ) (asked : List Answered) where
  -- the session's entries so far
  abbrev pub entries_so_far : List Entry
  entries_so_far = open_entries chair of cursor before.counter asked

  -- the history with them
  abbrev pub history_of : List Entry
  history_of = before.history ++ entries_so_far

  -- the core has these answered requests of the session, each asked at its top; it
  -- has not ticked since the last, and nothing waits
  pub record IsOpenOn (core : CoreState) : Type 0 where
    pub from : cursor ≡ last_cursor before.history
    pub config : core.config ≡ before.config
    pub history : core.history ≡ history_of
    pub waiting : core.waiting ≡ None
    pub steady : core.counter ≡ last_at core.history
    pub later : before.counter ≤ core.counter
    pub at_top : AreAskedAtTop before.config before.history entries_so_far

  -- behind them stands an end with this outcome and cursor, at this counter
  pub record HasEndedOn (how : Outcome) (end : ℤ) (after : List Entry) (at : ℕ) : Type 0 where
    pub from : cursor ≡ last_cursor before.history
    pub history : after ≡ history_of ++ entry_of chair (End how end at) ∷ []
    pub at_top : AreAskedAtTop before.config before.history entries_so_far

  -- it stands at the horizon, where this request isn't decided
  pub record IsGivenUpOn (request : Request) (end : ℤ) (after : List Entry) (at : ℕ) : Type 0 where
    pub ended : HasEndedOn outcome.Horizon end after at
    pub in_time : at ≡ before.config.horizon
    pub undecided : reply_to before.config history_of request before.config.horizon ≡ None

  -- want of memory left it with just these answered requests, and this one has no reply yet
  pub record IsHeldOn (request : Request) (core : CoreState) : Type 0 where
    pub from : cursor ≡ last_cursor before.history
    pub config : core.config ≡ before.config
    pub history : core.history ≡ history_of
    pub later : before.counter ≤ core.counter
    pub at_top : AreAskedAtTop before.config before.history entries_so_far
    pub stands : ((core.counter ≡ last_at core.history) × (core.waiting ≡ None)) ⊎ (IsDue core request ⊎ IsInVain core request)
