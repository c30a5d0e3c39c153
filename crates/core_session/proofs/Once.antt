-- One step of the processor, which asks a request.
use Rattle.std.proofs.Common.{◌≡◌, ℕ, ◌+◌, ◌<◌, false, Some, inr, sym, ap, subst, ◌∙◌, arith}
use Rattle.std.specs.Prelude.{ℤ, Option, is_some}
use Rattle.rtio_types.specs.declared.outcome.Outcome.TheVariants as outcome
use Rattle.rtio_types.specs.declared.request.Request.{Request}
use Rattle.rtio_types.specs.declared.request.Reply.{Reply}
use Rattle.rtio_types.specs.declared.request.Waiting.{Waiting}
use Rattle.rtio_types.specs.Requests.{request_waiting}
use Rattle.rtio_core.specs.declared.data.Ask.TheVariants as ask
use Rattle.rtio_core.specs.declared.data.Tick.TheVariants as tick
use Rattle.rtio_core.specs.Calls.{AnswersAsk, AnswersTick, NoOtherWaits, ended}
use Rattle.rtio_core.specs.Core.{CoreState, IsCore, core_top}
use Rattle.rtio_core.specs.Lawful.{IsOpenFor}
use Rattle.rtio_core.specs.Reply.{is_decided}
use Rattle.rtio_core.specs.Top.{top}
use Rattle.core_session.specs.declared.turn.Turn.TheVariants.{Replied, Again, Over}
use Rattle.core_session.specs.Stepping.{HasStoppedOnce, IsAskedByStep}
use Rattle.core_session.proofs.AtTop.{DecidedStays, never-held}

pub replied-once : (old new : CoreState) (request : Request) (cursor : ℤ) (reply : Reply) → AnswersAsk old 0 request (ask.Reply reply) new → IsAskedByStep old request cursor (Replied reply) new
replied-once old new request cursor reply answers = (answers.1, answers.2)

-- no other request waits
pub no-other : (old new : CoreState) (request back : Request) (w : Waiting) → NoOtherWaits old.waiting request → AnswersAsk old 0 request (ask.OtherPending w back) new → ⊥
no-other old new request back w free answers = answers.1 (subst (λ (v : Option Waiting). NoOtherWaits v request) answers.0 free)

module _ (old mid : CoreState) (request : Request) (until : ℕ) (w : Waiting) (answers : AnswersAsk old 0 request (ask.NotYet until w) mid) where
  pub went-once : (new : CoreState) (cursor : ℤ) (back : Request) → back ≡ request_waiting w → AnswersTick mid tick.Went new → IsAskedByStep old request cursor (Again back) new
  went-once new cursor back is-back a = (
    is-back ∙ answers.2,
    answers.1,
    (
      w,
      answers.2,
      subst (λ (c : CoreState). c.counter < core_top c) answers.5 a.0,
      a.1 ∙ ap (λ (c : CoreState). record c { counter = c.counter + 1 }) answers.5,
    ),
  )

  pub over-once : (still new : CoreState) (cursor : ℤ) → AnswersTick mid tick.Horizon still → new ≡ ended still 0 outcome.Horizon cursor → IsAskedByStep old request cursor Over new
  over-once still new cursor a is = (
    subst (λ (c : CoreState). c.counter ≡ c.config.horizon) answers.5 a.0,
    answers.1,
    (w, answers.2, is ∙ ap (λ (c : CoreState). ended c 0 outcome.Horizon cursor) (a.1 ∙ answers.5)),
  )

  pub vainly-once : (still new : CoreState) → AnswersTick mid tick.Horizon still → new ≡ still → HasStoppedOnce old request new
  vainly-once still new a is = inr (
    subst (λ (c : CoreState). c.counter ≡ c.config.horizon) answers.5 a.0,
    answers.1,
    (w, answers.2, is ∙ a.1 ∙ answers.5),
  )

  -- it doesn't stop below the horizon
  pub not-held : DecidedStays → IsCore old → IsOpenFor 0 old.history → (limit : ℕ) (new : CoreState) → AnswersTick mid (tick.Held limit) new → ⊥
  not-held stays known here limit new held =
      let none : is_decided old.config old.history request old.counter ≡ false = ap is_some answers.1 in
      let below : old.counter < old.config.horizon = subst (λ (c : CoreState). c.counter < c.config.horizon) answers.5 held.0 in
      let rises : old.counter < top old.config old.history (Some request) =
      never-held stays old.config old.history request (0, here.0) old.counter known.config known.lawful here.1 known.reached below none in
      let at : old.counter ≡ top old.config old.history (Some (request_waiting w)) = subst (λ (c : CoreState). c.counter ≡ core_top c) answers.5 held.1 in
      let same : old.counter ≡ top old.config old.history (Some request) = at ∙ ap (λ (q : Request). top old.config old.history (Some q)) answers.2 in
      omega (arith, rises, same)

  -- the session is still open at the horizon
  pub open-still : IsOpenFor 0 old.history → (new : CoreState) → AnswersTick mid tick.Horizon new → IsOpenFor 0 new.history
  open-still here new a = subst (λ (c : CoreState). IsOpenFor 0 c.history) (sym (a.1 ∙ answers.5)) here
