-- How a session plays the recordings that its replies bring.
use Rattle.std.specs.Prelude.{◌≡◌, ◌⊎◌, Bool, true, false, List, [], ◌∷◌, ◌++◌, map, ℤ, Option, Some, None}
use Rattle.rtio_types.specs.declared.event.Event.{Event}
use Rattle.rtio_types.specs.declared.outcome.Outcome.{Outcome}
use Rattle.rtio_types.specs.declared.outcome.Outcome.TheVariants as outcome
use Rattle.rtio_types.specs.declared.request.Request.{Request}
use Rattle.rtio_types.specs.declared.request.Request.TheVariants as ask
use Rattle.rtio_types.specs.declared.request.Reply.{Reply}
use Rattle.rtio_types.specs.declared.request.Reply.TheVariants as answer
use Rattle.rtio_types.specs.Recordings.{Recorded}
use Rattle.rtio_types.specs.Time.{shifted}
use Rattle.core_session.specs.Scripts.{Asks, Next}
use Rattle.core_session.specs.Sessions.{Answered, replies_of}

-- a request for a recording, by its name or by a handle
abbrev pub is_for_recording : Request → Bool
is_for_recording (ask.Fetch name) = true
is_for_recording (ask.FetchHandle handle) = true
is_for_recording request = false

-- a recording's outputs, played at a cursor
abbrev pub played_at : ℤ → List Event → List Event
played_at cursor events = map (λ (e : Event). shifted e cursor) events

-- What follows a reply that brought a recording: the replies to come, the requests made, and
-- the outcome, if there is one. The requests are these outputs in their order. They stop
-- before the last one only where no unit or no reply is left, or at one that underflows
abbrev pub ArePlayed : List Event → List Reply → List Request → Option Outcome → Type 0
ArePlayed [] replies requests how = Unit {0}
ArePlayed (e ∷ events) replies [] how = how ≡ Some outcome.Budget
ArePlayed (e ∷ events) [] (request ∷ requests) how = (request ≡ ask.Out e) × (requests ≡ []) × (how ≡ None)
ArePlayed (e ∷ events) (reply ∷ replies) (request ∷ requests) how =
    (request ≡ ask.Out e) × ((reply ≡ answer.Underflow) ⊎ ArePlayed events replies requests how)

-- The same in a session that has ended: the answered requests behind that one are these outputs in their order, and
-- stop before the last one only at one that underflows, or where the session ended for want of a unit or at the horizon
abbrev pub PlaysBack : List Event → List Answered → Outcome → Type 0
PlaysBack [] asked how = Unit {0}
PlaysBack (e ∷ events) [] how = (how ≡ outcome.Budget) ⊎ (how ≡ outcome.Horizon)
PlaysBack (e ∷ events) (a ∷ asked) how =
    (a.request ≡ ask.Out e) × ((a.reply ≡ answer.Underflow) ⊎ PlaysBack events asked how)

-- each recording that a reply brought was asked for at some cursor, and is played there
abbrev pub PlaysRecordings : (List Reply → Next) → List Answered → Outcome → Type 0
PlaysRecordings next asked how =
    (front : List Answered) (a : Answered) (back : List Answered) (recording : Recorded)
    → asked ≡ front ++ a ∷ back
    → a.reply ≡ answer.Trace recording
    → (cursor : ℤ)
    × (next (replies_of front) ≡ Asks a.request cursor)
    × PlaysBack (played_at cursor recording.events) back how
