-- What the calls of a core answer and leave.
use Rattle.std.specs.Prelude.{◌≡◌, ◌≢◌, Bool, false, not, ℕ, ◌+◌, ◌<◌, [], ◌∷◌, ◌++◌, ℤ, Option, Some, None}
use Rattle.rtio_types.specs.declared.request.Request.{Request}
use Rattle.rtio_types.specs.declared.request.Reply.{Reply}
use Rattle.rtio_types.specs.declared.outcome.Outcome.{Outcome}
use Rattle.rtio_types.specs.declared.outcome.Outcome.TheVariants as outcome
use Rattle.rtio_types.specs.declared.request.Waiting.{Waiting}
use Rattle.rtio_types.specs.declared.request.Waiting.TheVariants as waiting
use Rattle.rtio_types.specs.Requests.{request_waiting}
use Rattle.rtio_types.specs.Time.{reading, counter_reaching}
use Rattle.sed_lanes.specs.Verdict.{until}
use Rattle.output_merge.specs.Live.{live, greatest_cycle}
use Rattle.rtio_core.specs.declared.data.StartOf.{StartOf}
use Rattle.rtio_core.specs.declared.data.Act.{Act}
use Rattle.rtio_core.specs.declared.data.Act.TheVariants.{Start, Asked, End}
use Rattle.rtio_core.specs.declared.data.Ask.{Ask}
use Rattle.rtio_core.specs.declared.data.Ask.TheVariants as ask
use Rattle.rtio_core.specs.declared.data.Tick.{Tick}
use Rattle.rtio_core.specs.declared.data.Tick.TheVariants as tick
use Rattle.rtio_core.specs.Entries.{open_session, limit, judged_history}
use Rattle.rtio_core.specs.Reply.{is_decided, lanes_at, reply_to}
use Rattle.rtio_core.specs.Core.{CoreState, core_top}

-- the core with one entry more, and nothing waiting
abbrev pub with_entry : CoreState → ℕ → Act → CoreState
with_entry core chair act = record core { history = core.history ++ record { chair = chair; act = act } ∷ []; waiting = None }

abbrev pub started : CoreState → ℕ → StartOf → ℤ → CoreState
started core chair of cursor = with_entry core chair (Start of cursor core.counter)

abbrev pub answered : CoreState → ℕ → Request → Reply → CoreState
answered core chair request reply = with_entry core chair (Asked request reply core.counter)

abbrev pub ended : CoreState → ℕ → Outcome → ℤ → CoreState
ended core chair outcome cursor = with_entry core chair (End outcome cursor core.counter)

-- no request but this one waits
abbrev pub NoOtherWaits : Option Waiting → Request → Type 0
NoOtherWaits None request = Unit {0}
NoOtherWaits (Some w) request = request_waiting w ≡ request

-- the counter at which the core should be asked again at the latest
abbrev pub asked_again_at : CoreState → Waiting → ℕ
asked_again_at core (waiting.Out e) = until (lanes_at core.config core.history core.counter) e
asked_again_at core (waiting.Wait until) = counter_reaching until
asked_again_at core (waiting.Edge channel up_to) = counter_reaching up_to

-- what an answer to a request says, and what it leaves: the right reply, which becomes an entry; that the request isn't
-- decided at the counter, and now waits; or that another one waits
abbrev pub AnswersAsk : CoreState → ℕ → Request → Ask → CoreState → Type 0
AnswersAsk old chair request (ask.Reply reply) new =
    NoOtherWaits old.waiting request × (reply_to old.config old.history request old.counter ≡ Some reply)
    × (new ≡ answered old chair request reply)
AnswersAsk old chair request (ask.NotYet until w) new =
    NoOtherWaits old.waiting request × (reply_to old.config old.history request old.counter ≡ None)
    × (request_waiting w ≡ request) × (until ≡ asked_again_at old w) × (old.counter < until)
    × (new ≡ record old { waiting = Some w })
AnswersAsk old chair request (ask.OtherPending w back) new =
    (old.waiting ≡ Some w) × (request_waiting w ≢ request) × (back ≡ request) × (new ≡ old)

-- a request waits that isn't decided at the counter
abbrev pub has_to_wait : CoreState → Bool
has_to_wait core = undecided core.waiting
  where
    undecided : Option Waiting → Bool
    undecided None = false
    undecided (Some w) = not (is_decided core.config core.history (request_waiting w) core.counter)

-- the limit that a tick tells: of the open session, or of the greatest cycle that is still to be put out
abbrev pub told_limit : CoreState → ℕ
told_limit core = of_session (open_session core.history)
  where
    of_session : Option (ℕ × ℕ) → ℕ
    of_session (Some running) = limit core.config.cost core.history
    of_session None = reading (greatest_cycle (live (judged_history core.config core.history)))

-- what a tick answers and leaves: it went; the counter is at its top; or it is at the horizon
abbrev pub AnswersTick : CoreState → Tick → CoreState → Type 0
AnswersTick old tick.Went new = (old.counter < core_top old) × (new ≡ record old { counter = old.counter + 1 })
AnswersTick old (tick.Held limit) new =
    (old.counter < old.config.horizon) × (old.counter ≡ core_top old) × (limit ≡ told_limit old) × (new ≡ old)
AnswersTick old tick.Horizon new = (old.counter ≡ old.config.horizon) × (new ≡ old)

-- while a request waits a session may end with the outcome Horizon alone
abbrev pub MayEnd : Option Waiting → Outcome → Type 0
MayEnd None how = Unit {0}
MayEnd (Some w) how = how ≡ outcome.Horizon
