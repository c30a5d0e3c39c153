-- Laws of the places.
use Rattle.std.specs.Prelude.{◌≡◌, ℕ, ℤ, List, [], drop, length, Option, Some}
use Rattle.rtio_types.specs.declared.outcome.Outcome.{Outcome}
use Rattle.rtio_core.specs.declared.data.StartOf.{StartOf}
use Rattle.rtio_core.specs.Core.{CoreState}
use Rattle.core_isa.specs.declared.code.Code.{Code}
use Rattle.core_cpu.specs.Standing.{HasEntry, Start as Beginning}
use Rattle.core_session.specs.Sessions.{AddsSession, Answered, RunsSession, beginning_of, replies_of}
use Rattle.kernel_places.specs.declared.place.Place.{Place}
use Rattle.kernel_places.specs.Ends.{EndsFrom, StopsFrom, last_of}
use Rattle.kernel_places.specs.Places.{AreAskedAt, AsksEach, answered_in}

-- the run of a session asks each request that was answered in it, under the replies to the ones before it
abbrev pub SessionsAsk : Code → Type 0
SessionsAsk code =
    (units : ℕ) (of : StartOf) (old new : CoreState) (how : Outcome) (count : ℕ)
    → HasEntry code of.function of.args
    → (session : RunsSession code units of old new how count)
    → AsksEach code (beginning_of of units old) [] session.asked

-- the answered requests among the entries that a session adds to the history are those of the session
abbrev pub SessionsAnswer : Type 0
SessionsAnswer =
    (of : StartOf) (old new : CoreState) (asked : List Answered) (how : Outcome) (cursor : ℤ)
    → AddsSession of old new asked how cursor
    → answered_in (drop (length old.history) new.history) ≡ asked

-- a run stops at a place that has a line: it is never said that no line tells where
abbrev pub EndsAreTold : Code → (lines : List ℕ) → Type 0
EndsAreTold code lines =
    (start : Beginning) (answered : List Answered) (asked : List Place) (end : Option Place)
    → HasEntry code start.function start.args
    → AreAskedAt code start [] answered asked
    → StopsFrom code lines start (replies_of answered) (last_of asked) end
    → (place : Place) × (end ≡ Some place) × EndsFrom code lines start (replies_of answered) place
