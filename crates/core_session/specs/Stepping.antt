-- What the steps of a session come to that a schedule gives: a request is asked at each step of the processor.
use Rattle.std.specs.Prelude.{◌≡◌, ◌⊎◌, ℕ, ◌+◌, ◌≤◌, ◌<◌, Bool, true, false, List, [], ◌∷◌, ◌++◌, ℤ, Option, Some, None}
use Rattle.rtio_types.specs.declared.outcome.Outcome.TheVariants as outcome
use Rattle.rtio_types.specs.declared.request.Request.{Request}
use Rattle.rtio_types.specs.declared.request.Reply.{Reply}
use Rattle.rtio_types.specs.declared.request.Waiting.{Waiting}
use Rattle.rtio_types.specs.Requests.{request_waiting}
use Rattle.rtio_core.specs.declared.data.Act.TheVariants.{End}
use Rattle.rtio_core.specs.Calls.{answered, ended}
use Rattle.rtio_core.specs.Core.{CoreState, core_top}
use Rattle.rtio_core.specs.Reply.{reply_to}
use Rattle.run_schedule.specs.declared.schedule.Step.TheVariants.{Cpu}
use Rattle.run_schedule.specs.Schedules.{ScheduleState, Lockstep, Letters, Mix}
use Rattle.core_session.specs.declared.turn.Turn.{Turn}
use Rattle.core_session.specs.declared.turn.Turn.TheVariants.{Replied, Again, Over}
use Rattle.core_session.specs.Scripts.{Next, Asks}
use Rattle.core_session.specs.Sessions.{entry_of}
use Rattle.core_session.specs.Timed.{Playing, IsStoppedIn, played, played_steps, session_replies, stepped}

-- the core with the schedule, in a session
abbrev pub playing : CoreState → ScheduleState → (over : Bool) → Playing
playing core schedule over = record { core = core; schedule = schedule; over = over }

-- some number of steps leads there
abbrev pub LeadsBySteps : (List Reply → Next) → Playing → Playing → Type 0
LeadsBySteps next from to = (n : ℕ) × (played_steps next 0 n from ≡ to)

-- after a tick of the schedule, so many ticks may be made at once: in lockstep those up to where the core is stopped
abbrev pub ticks_in_a_row : ScheduleState → ℕ
ticks_in_a_row Lockstep = 18446744073709551615
ticks_in_a_row (Letters word) = 1
ticks_in_a_row (Mix x ticks) = 1

-- the core has only ticked, as the schedule says, and the next step is one of the processor
pub record IsCpuNext (old : CoreState) (before : ScheduleState) (new : CoreState) (after : ScheduleState) : Type 0 where
  pub is : new ≡ record old { counter = new.counter }
  pub later : old.counter ≤ new.counter
  pub at : ScheduleState
  pub ticks : (next : List Reply → Next) → LeadsBySteps next (playing old before false) (playing new at false)
  pub step :
      (next : List Reply → Next)
      → played next 0 (playing new at false) ≡ stepped next 0 Cpu (playing new after false)

-- ---- one step of the processor

-- the core on which the request waits
abbrev pub waits_with : CoreState → Waiting → CoreState
waits_with core waiting = record core { waiting = Some waiting }

-- what one step makes of a request: it is answered; it isn't decided, and the core has ticked once; or that is so at the
-- horizon, and the session has ended there
abbrev pub IsAskedByStep : CoreState → Request → ℤ → Turn → CoreState → Type 0
IsAskedByStep old request cursor (Replied reply) new =
    (reply_to old.config old.history request old.counter ≡ Some reply) × (new ≡ answered old 0 request reply)
IsAskedByStep old request cursor (Again back) new =
    (back ≡ request) × (reply_to old.config old.history request old.counter ≡ None)
    × ((w : Waiting) × (request_waiting w ≡ request) × (old.counter < core_top (waits_with old w))
    × (new ≡ record (waits_with old w) { counter = old.counter + 1 }))
IsAskedByStep old request cursor Over new =
    (old.counter ≡ old.config.horizon) × (reply_to old.config old.history request old.counter ≡ None)
    × ((w : Waiting) × (request_waiting w ≡ request) × (new ≡ ended (waits_with old w) 0 outcome.Horizon cursor))

-- without memory the core is as before it, or the request waits at the horizon, where it isn't decided
abbrev pub HasStoppedOnce : CoreState → Request → CoreState → Type 0
HasStoppedOnce old request new =
    (new ≡ old)
    ⊎ ((old.counter ≡ old.config.horizon) × (reply_to old.config old.history request old.counter ≡ None)
    × ((w : Waiting) × (request_waiting w ≡ request) × (new ≡ waits_with old w)))

-- ---- until it is decided

-- it has got this reply, by steps that the schedule gives where the session asks it next
pub record IsAnsweredBySteps (old : CoreState) (before : ScheduleState) (request : Request) (reply : Reply) (new : CoreState) (after : ScheduleState) : Type 0 where
  pub at : ℕ
  pub right : reply_to old.config old.history request at ≡ Some reply
  pub leaves : new ≡ answered (record old { counter = at }) 0 request reply
  pub timed :
      (next : List Reply → Next) (cursor : ℤ)
      → next (session_replies old.history) ≡ Asks request cursor
      → LeadsBySteps next (playing old before false) (playing new after false)

-- it isn't decided at the horizon, and the session has ended there
pub record IsGivenUpBySteps (old : CoreState) (before : ScheduleState) (request : Request) (cursor : ℤ) (new : CoreState) (after : ScheduleState) : Type 0 where
  pub undecided : reply_to old.config old.history request old.config.horizon ≡ None
  pub config : new.config ≡ old.config
  pub history : new.history ≡ old.history ++ entry_of 0 (End outcome.Horizon cursor new.counter) ∷ []
  pub waiting : new.waiting ≡ None
  pub timed :
      (next : List Reply → Next)
      → next (session_replies old.history) ≡ Asks request cursor
      → LeadsBySteps next (playing old before false) (playing new after true)

abbrev pub IsAskedBySteps : CoreState → ScheduleState → Request → ℤ → Option Reply → CoreState → ScheduleState → Type 0
IsAskedBySteps old before request cursor (Some reply) new after = IsAnsweredBySteps old before request reply new after
IsAskedBySteps old before request cursor None new after = IsGivenUpBySteps old before request cursor new after

-- without memory the core is left where a step behind some steps stopped
abbrev pub HasStoppedAsking : CoreState → ScheduleState → Request → CoreState → Type 0
HasStoppedAsking old before request new =
    (next : List Reply → Next) (cursor : ℤ)
    → next (session_replies old.history) ≡ Asks request cursor
    → (n : ℕ) × IsStoppedIn next (played_steps next 0 n (playing old before false)) new
