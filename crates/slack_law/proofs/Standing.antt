-- The state of a run without a core stands for the state of the same kernel on a core: each number lies within its span,
-- and the core's history keeps within the bounds.
use Rattle.std.proofs.Common.{◌≡◌, ◌≢◌, ℕ, ◌+◌, ◌*◌, ◌≤◌, List, [], ◌∷◌, ◌++◌, map, length, Option, Some, None}
use Rattle.std.specs.Prelude.{ℤ, ◌≤ℤ◌}
use Rattle.std.specs.List.{AllZip}
use Rattle.rtio_types.specs.declared.event.Event.{Event}
use Rattle.rtio_types.specs.declared.outcome.Exc.{Exc}
use Rattle.rtio_types.specs.declared.request.Request.{Request}
use Rattle.rtio_types.specs.declared.request.Reply.TheVariants as answer
use Rattle.rtio_types.specs.declared.request.Value.{Value}
use Rattle.rtio_types.specs.declared.request.Value.TheVariants as W
use Rattle.rtio_types.specs.Recordings.{Recorded}
use Rattle.kern_syntax.specs.Tree.{Bytes}
use Rattle.sed_lanes.specs.Judged.{next_number}
use Rattle.rtio_core.specs.declared.data.Act.TheVariants.{Asked}
use Rattle.rtio_core.specs.declared.data.Config.{Config}
use Rattle.rtio_core.specs.declared.data.Entry.{Entry}
use Rattle.rtio_core.specs.Entries.{judged_history, kept_after, last_at, last_saved, limit as limit_of, open_session}
use Rattle.rtio_core.specs.Lawful.{IsLawfulAfter}
use Rattle.rtio_core.proofs.Settings.{AreInRange}
use Rattle.timeline_sem.specs.Actions.{State, Reason, break, continue, return, raised, budget, unanswered, Completion, normal, early}
use Rattle.slack_meaning.specs.declared.span.Span.{Span}
use Rattle.slack_meaning.specs.declared.span.SpanEvent.{SpanEvent}
use Rattle.slack_meaning.specs.Actions.{SpanRecording, Held}
use Rattle.slack_meaning.specs.declared.verdict.Stopped.{Stopped}
use Rattle.slack_meaning.specs.Actions as S
use Rattle.slack_meaning.specs.Answers.{at_hand}
use Rattle.slack_law.specs.Promise.{Answered, requests_of, replies_of}

-- where there is nothing to say of a value
abbrev pub Any : {A B : Type 0} → A → B → Type 0
Any x y = Unit {0}

-- a number lies within a span
pub record IsWithin (n : ℤ) (span : Span) : Type 0 where
  pub least : span.least ≤ℤ n
  pub greatest : n ≤ℤ span.greatest

-- each of some numbers does
abbrev pub AreWithin : List ℤ → List Span → Type 0
AreWithin ns spans = AllZip IsWithin ns spans

-- an output is one that may have a span as its stamp
pub record IsEventWithin (e : Event) (f : SpanEvent) : Type 0 where
  pub channel : e.channel ≡ f.channel
  pub address : e.address ≡ f.address
  pub value : e.value ≡ f.value
  pub stamp : IsWithin e.stamp f.stamp

abbrev pub AreEventsWithin : List Event → List SpanEvent → Type 0
AreEventsWithin es fs = AllZip IsEventWithin es fs

pub record IsRecordingWithin (r : Recorded) (f : SpanRecording) : Type 0 where
  pub events : AreEventsWithin r.events f.events
  pub length : IsWithin r.length f.length

-- what a name has is within what it holds
abbrev pub IsValueWithin : Value → Held → Type 0
IsValueWithin (W.Int n) (S.number span) = IsWithin n span
IsValueWithin (W.List ns) (S.list spans) = AreWithin ns spans
IsValueWithin _ _ = ⊥

-- the same name with such a value
pub record IsNameWithin (x : Bytes × Value) (y : Bytes × Held) : Type 0 where
  pub name : x.0 ≡ y.0
  pub value : IsValueWithin x.1 y.1

abbrev pub AreNamesWithin : List (Bytes × Value) → List (Bytes × Held) → Type 0
AreNamesWithin xs ys = AllZip IsNameWithin xs ys

-- what is collected, if anything is
abbrev pub IsCollectedWithin : Option (List Event) → Option (List SpanEvent) → Type 0
IsCollectedWithin None None = Unit {0}
IsCollectedWithin (Some es) (Some fs) = AreEventsWithin es fs
IsCollectedWithin _ _ = ⊥

-- a reply that isn't that an output is too late
abbrev pub IsInTime : Answered → Type 0
IsInTime x = x.reply ≢ answer.Underflow

abbrev pub AreAllInTime : List Answered → Type 0
AreAllInTime [] = Unit {0}
AreAllInTime (x ∷ xs) = IsInTime x × AreAllInTime xs

-- so it is of as many answers as there are requests
abbrev pub AreInTimeFor : List Request → List Answered → Type 0
AreInTimeFor [] xs = Unit {0}
AreInTimeFor (q ∷ qs) [] = Unit {0}
AreInTimeFor (q ∷ qs) (x ∷ xs) = IsInTime x × AreInTimeFor qs xs

-- requests are those that were answered, as far as both go
abbrev pub Agree : List Request → List Answered → Type 0
Agree [] xs = Unit {0}
Agree (q ∷ qs) [] = Unit {0}
Agree (q ∷ qs) (x ∷ xs) = (q ≡ x.request) × Agree qs xs

-- the entry of an answered request
abbrev pub asked_entry : ℕ → Answered → Entry
asked_entry chair x = record { chair = chair; act = Asked x.request x.reply x.at }

-- how many names are at hand
abbrev pub hands : List (Bytes × Option SpanRecording) → ℕ
hands [] = 0
hands (entry ∷ rest) = one entry.1 + hands rest
  where
    one : Option SpanRecording → ℕ
    one None = 0
    one (Some recording) = 1

-- a recording that is at hand is the one that the core keeps
abbrev pub AreKept : Config → List Entry → List (Bytes × Option SpanRecording) → Type 0
AreKept config history saved =
    (name : Bytes) (f : SpanRecording)
    → at_hand saved name ≡ Some f
    → (r : Recorded) × (last_saved config name history ≡ Some r) × IsRecordingWithin r f

-- what a state of the run without a core says of the core
pub record Bounds : Type 0 where
  pub limit : ℕ
  pub least : ℕ
  pub outs : ℕ
  pub saved : List (Bytes × Option SpanRecording)
  pub cost : ℕ
  pub depth : ℕ

abbrev pub bounds_of : S.State → Bounds
bounds_of a =
    record { limit = a.limit; least = a.least; outs = a.outs; saved = a.saved; cost = a.cost; depth = a.depth }

-- the core's history keeps within the bounds: a session is open; its limit is at most the bound; the last entry isn't before
-- the least reading; so many outputs were asked for; the recordings at hand are kept, and few others
pub record IsBounded (config : Config) (history : List Entry) (a : Bounds) : Type 0 where
  pub running : ℕ × ℕ
  pub session : open_session history ≡ Some running
  pub cost : a.cost ≡ config.cost
  pub depth : a.depth ≤ config.depth
  pub limited : limit_of config.cost history ≤ a.limit
  pub reached : a.least ≤ 8 * last_at history
  pub counted : next_number (judged_history config history) ≡ a.outs
  pub kept : AreKept config history a.saved
  pub few : length (kept_after config history).entries ≤ 64 + hands a.saved
  pub names : length a.saved ≤ 1000

-- a core and a session of it: how it began, and what it was answered, which is lawful
pub record Session : Type 0 where
  pub config : Config
  pub ranges : AreInRange config
  pub chair : ℕ
  pub start : Entry
  pub world : List Answered
  pub lawful : IsLawfulAfter config (start ∷ []) (map (asked_entry chair) world)

-- the history after these answers
abbrev pub history_of : Session → List Answered → List Entry
history_of session past = session.start ∷ map (asked_entry session.chair) past

-- a state of the run without a core stands for one of the kernel that was answered so, and will be
pub record Stands (session : Session) (s : State) (a : S.State) : Type 0 where
  pub past : List Answered
  pub left : List Answered
  pub whole : session.world ≡ past ++ left
  pub asked : s.asked ≡ requests_of past
  pub replies : s.replies ≡ replies_of left
  pub in_time : AreAllInTime past
  pub bounded : IsBounded session.config (history_of session past) (bounds_of a)
  pub values : AreNamesWithin s.values a.values
  pub cursor : IsWithin s.cursor a.cursor
  pub units : s.units ≤ a.units
  pub collected : IsCollectedWithin s.collected a.collected

-- all that was answered was in time
abbrev pub IsSafe : Session → State → Type 0
IsSafe session s = AreInTimeFor s.asked session.world

-- why the kernel ends where the other run needn't: it has no units or no replies left
pub data OnlyEnds : Reason → Type 0 where
  by_budget : OnlyEnds budget
  by_silence : OnlyEnds unanswered

-- why both end early
pub data EndsAlike : Reason → S.Reason → Type 0 where
  by_break : EndsAlike break S.break
  by_continue : EndsAlike continue S.continue
  by_return : {n : ℤ} {span : Span} → IsWithin n span → EndsAlike (return n) (S.return span)
  by_raising : (x : Exc) → EndsAlike (raised x) (S.raised x)

-- an end of the run without a core is met by that of the kernel: its verdict stands, and nothing is claimed; or both end
-- alike; or only the kernel ends, and was safe up to there
pub data Meets (session : Session) {A B : Type 0} (good : A → B → Type 0) : Completion A → S.Completion B → Type 0 where
  stopped : {c : Completion A} (verdict : Stopped) (a : S.State) → Meets session good c (S.early (S.decided verdict) a)
  normally : {x : A} {y : B} {s : State} {a : S.State} → good x y → Stands session s a → Meets session good (normal x s) (S.normal y a)
  alike : {r : Reason} {t : S.Reason} {s : State} {a : S.State} → EndsAlike r t → Stands session s a → Meets session good (early r s) (S.early t a)
  only : {r : Reason} {s : State} {d : S.Completion B} → OnlyEnds r → IsSafe session s → Meets session good (early r s) d
