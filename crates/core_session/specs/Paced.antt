-- Where a session stands whose steps a schedule gives.
use Rattle.std.specs.Prelude.{◌≡◌, List, [], ◌∷◌, ◌++◌, ℤ, false, true, None}
use Rattle.rtio_types.specs.declared.outcome.Outcome.{Outcome}
use Rattle.rtio_types.specs.declared.outcome.Outcome.TheVariants as outcome
use Rattle.rtio_types.specs.declared.request.Request.{Request}
use Rattle.rtio_types.specs.declared.request.Reply.{Reply}
use Rattle.rtio_core.specs.declared.data.Act.TheVariants.{End}
use Rattle.rtio_core.specs.declared.data.Entry.{Entry}
use Rattle.rtio_core.specs.Core.{CoreState}
use Rattle.rtio_core.specs.Entries.{last_cursor}
use Rattle.rtio_core.specs.Reply.{reply_to}
use Rattle.run_schedule.specs.Schedules.{ScheduleState}
use Rattle.core_session.specs.Asking.{AreAsked}
use Rattle.core_session.specs.Lending.{Opening}
use Rattle.core_session.specs.Scripts.{Next, Asks, Ends}
use Rattle.core_session.specs.Sessions.{Answered, entry_of, open_entries, replies_of}
use Rattle.core_session.specs.Stepping.{LeadsBySteps, playing}
use Rattle.core_session.specs.Timed.{IsLeftWithin, begun}

-- the core and the schedule
abbrev pub Pace : Type 0
Pace = CoreState × ScheduleState

-- the script asks each of these requests behind those before
abbrev pub IsTold : (List Reply → Next) → List Answered → Type 0
IsTold next asked = AreAsked (λ before request. (cursor : ℤ) × (next (replies_of before) ≡ Asks request cursor)) [] asked

-- the history with the session's entries so far
abbrev pub history_of : Opening Pace → List Answered → List Entry
history_of o asked = o.first.0.history ++ open_entries 0 o.of o.cursor o.first.0.counter asked

-- the session is open with these answered requests, to which the schedule's steps have led
pub record IsPlayed (o : Opening Pace) (asked : List Answered) (now : Pace) : Type 0 where
  pub from : o.cursor ≡ last_cursor o.first.0.history
  pub history : now.0.history ≡ history_of o asked
  pub config : now.0.config ≡ o.first.0.config
  pub waiting : now.0.waiting ≡ None
  pub timed :
      (next : List Reply → Next)
      → IsTold next asked
      → LeadsBySteps next (begun o.first.0 o.first.1 0 o.of) (playing now.0 now.1 false)

-- they have led to its end
pub record IsPlayedOut (o : Opening Pace) (asked : List Answered) (how : Outcome) (cursor : ℤ) (now : Pace) : Type 0 where
  pub from : o.cursor ≡ last_cursor o.first.0.history
  pub history : now.0.history ≡ history_of o asked ++ entry_of 0 (End how cursor now.0.counter) ∷ []
  pub config : now.0.config ≡ o.first.0.config
  pub waiting : now.0.waiting ≡ None
  pub timed :
      (next : List Reply → Next)
      → IsTold next asked
      → next (replies_of asked) ≡ Ends how cursor
      → LeadsBySteps next (begun o.first.0 o.first.1 0 o.of) (playing now.0 now.1 true)

-- or to its end at the horizon, where this request isn't decided
pub record IsGivenUp (o : Opening Pace) (asked : List Answered) (request : Request) (cursor : ℤ) (now : Pace) : Type 0 where
  pub from : o.cursor ≡ last_cursor o.first.0.history
  pub history : now.0.history ≡ history_of o asked ++ entry_of 0 (End outcome.Horizon cursor now.0.counter) ∷ []
  pub config : now.0.config ≡ o.first.0.config
  pub waiting : now.0.waiting ≡ None
  pub undecided : reply_to o.first.0.config (history_of o asked) request o.first.0.config.horizon ≡ None
  pub timed :
      (next : List Reply → Next)
      → IsTold next asked
      → next (replies_of asked) ≡ Asks request cursor
      → LeadsBySteps next (begun o.first.0 o.first.1 0 o.of) (playing now.0 now.1 true)

-- without memory the core is left where a step stopped: one that was to end the session
abbrev pub IsUnended : Opening Pace → List Answered → Pace → Type 0
IsUnended o asked now =
    (o.cursor ≡ last_cursor o.first.0.history)
    × ((next : List Reply → Next) → IsTold next asked → IsLeftWithin next 0 o.of o.first.0 o.first.1 now.0)

-- or one that was to answer the request
abbrev pub IsHeldUp : Opening Pace → List Answered → Request → Pace → Type 0
IsHeldUp o asked request now =
    (o.cursor ≡ last_cursor o.first.0.history)
    × ((next : List Reply → Next) (cursor : ℤ) → IsTold next asked → next (replies_of asked) ≡ Asks request cursor
    → IsLeftWithin next 0 o.of o.first.0 o.first.1 now.0)
