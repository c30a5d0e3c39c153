-- A session whose steps a schedule gives.
use Rattle.std.proofs.Common.{◌≡◌, ℕ, true, false, List, [], ◌∷◌, ◌++◌, Some, None, inl, refl, sym, ap, subst, ◌∙◌}
use Rattle.std.specs.Prelude.{ℤ, IfSome, IsTrue, Option}
use Rattle.rtio_types.specs.declared.outcome.Outcome.{Outcome}
use Rattle.rtio_types.specs.declared.outcome.Outcome.TheVariants as outcome
use Rattle.rtio_types.specs.declared.request.Request.{Request}
use Rattle.rtio_types.specs.declared.request.Reply.{Reply}
use Rattle.rtio_types.specs.declared.request.Waiting.{Waiting}
use Rattle.rtio_core.specs.declared.data.Act.TheVariants.{End, Start}
use Rattle.rtio_core.specs.declared.data.Config.{Config}
use Rattle.rtio_core.specs.declared.data.Entry.{Entry}
use Rattle.rtio_core.specs.declared.data.StartOf.{StartOf}
use Rattle.rtio_core.specs.Calls.{NoOtherWaits, ended, started}
use Rattle.rtio_core.specs.Core.{CoreState}
use Rattle.rtio_core.specs.Entries.{last_cursor, open_session}
use Rattle.rtio_core.specs.Lawful.{AreFitting, IsOpenFor}
use Rattle.rtio_types.specs.Requests.{fits_request}
use Rattle.rtio_core.specs.Reply.{reply_to}
use Rattle.run_schedule.specs.Schedules.{ScheduleState}
use Rattle.core_session.specs.Lending.{HasOpen, IsAskedSo, Opening, began}
use Rattle.core_session.specs.Paced.{IsGivenUp, IsHeldUp, IsPlayed, IsPlayedOut, IsTold, IsUnended, Pace, history_of}
use Rattle.core_session.specs.Scripts.{Next, Asks, Ends}
use Rattle.core_session.specs.Sessions.{Answered, asked_entry, entry_of, replies_of}
use Rattle.core_session.specs.Stepping.{HasStoppedAsking, IsAskedBySteps, IsCpuNext, LeadsBySteps, playing}
use Rattle.core_session.specs.Timed.{IsStoppedIn, Playing, begun, played_steps, processed, session_replies}
use Rattle.core_session.proofs.Histories.{asked-split, fits-last, history-push, open-history, replies-history}
use Rattle.core_session.proofs.Steps.{so-many, steps-more}

pub open-paced : (now : Pace) → HasOpen IsPlayed now → IsOpenFor 0 now.0.history
open-paced now (o, asked, is) = (o.of.rid, ap open_session is.history ∙ open-history 0 o.first.0.history o.of o.cursor o.first.0.counter asked)

pub free-paced : (now : Pace) (request : Request) → HasOpen IsPlayed now → NoOtherWaits now.0.waiting request
free-paced now request (o, asked, is) = subst (λ (v : Option Waiting). NoOtherWaits v request) (sym is.waiting) tt

pub started-paced : (old new : CoreState) (schedule : ScheduleState) (of : StartOf) (cursor : ℤ) → cursor ≡ last_cursor old.history → new ≡ started old 0 of (last_cursor old.history)
    → IsPlayed (began (old, schedule) of cursor) [] (new, schedule)
started-paced old new schedule of cursor at is = record {
  from = at;
  history = ap (λ (c : CoreState). c.history) is ∙ ap (λ (z : ℤ). old.history ++ entry_of 0 (Start of z old.counter) ∷ []) (sym at);
  config = ap (λ (c : CoreState). c.config) is;
  waiting = ap (λ (c : CoreState). c.waiting) is;
  timed = λ next told. (0, ap (λ (c : CoreState). playing c schedule false) (sym is));
}

module _ (o : Opening Pace) (asked : List Answered) (old : Pace) (is : IsPlayed o asked old) where
  -- what comes next is told by the replies so far
  next-now : (next : List Reply → Next) (n : Next) → next (replies_of asked) ≡ n → next (session_replies old.0.history) ≡ n
  next-now next n told = ap next (ap session_replies is.history ∙ replies-history 0 o.first.0.history o.of o.cursor o.first.0.counter asked) ∙ told

  more-steps : (next : List Reply → Next) (to : Playing) → IsTold next asked → LeadsBySteps next (playing old.0 old.1 false) to → LeadsBySteps next (begun o.first.0 o.first.1 0 o.of) to
  more-steps next to told leads = let first = is.timed next told in so-many next first.0 first.1 leads

pub asked-paced : (old new : Pace) (request : Request) (cursor : ℤ) (reply : Option Reply) → IsAskedBySteps old.0 old.1 request cursor reply new.0 new.1 → IsAskedSo IsPlayed IsGivenUp old request cursor reply new
asked-paced old new request cursor (Some reply) does = λ o asked is.
    let one : Answered = record { request = request; reply = reply; at = does.at } in (
      does.at,
      record {
        from = is.from;
        history =
            ap (λ (c : CoreState). c.history) does.leaves
            ∙ ap (λ (h : List Entry). h ++ asked_entry 0 one ∷ []) is.history
            ∙ history-push 0 o.first.0.history o.of o.cursor o.first.0.counter asked one;
        config = ap (λ (c : CoreState). c.config) does.leaves ∙ is.config;
        waiting = ap (λ (c : CoreState). c.waiting) does.leaves;
        timed = λ next told.
            let split = asked-split (λ before request. (z : ℤ) × (next (replies_of before) ≡ Asks request z)) [] asked one told in
            more-steps o asked old is next (playing new.0 new.1 false) split.0
            (does.timed next split.1.0 (next-now o asked old is next (Asks request split.1.0) split.1.1));
      },
    )
asked-paced old new request cursor None does = λ o asked is. record {
  from = is.from;
  history = does.history ∙ ap (λ (h : List Entry). h ++ entry_of 0 (End outcome.Horizon cursor new.0.counter) ∷ []) is.history;
  config = does.config ∙ is.config;
  waiting = does.waiting;
  undecided =
      subst (λ (h : List Entry). reply_to o.first.0.config h request o.first.0.config.horizon ≡ None) is.history
      (subst (λ (c : Config). reply_to c old.0.history request c.horizon ≡ None) is.config does.undecided);
  timed = λ next told asks. more-steps o asked old is next (playing new.0 new.1 true) told (does.timed next (next-now o asked old is next (Asks request cursor) asks));
}

-- the reply fits
pub fits-paced : (old new : Pace) (request : Request) (cursor : ℤ) (reply : Option Reply) → IsAskedBySteps old.0 old.1 request cursor reply new.0 new.1 → AreFitting new.0.history → IfSome reply (λ r. IsTrue (fits_request request r))
fits-paced old new request cursor (Some reply) does fit = fits-last old.0.history new.0.history 0 request reply does.at (ap (λ (c : CoreState). c.history) does.leaves) fit
fits-paced old new request cursor None does fit = tt

-- where a step behind some steps stopped, so it did behind all
pub held-paced : (old new : Pace) (request : Request) → HasStoppedAsking old.0 old.1 request new.0 → (o : Opening Pace) (asked : List Answered) → IsPlayed o asked old → IsHeldUp o asked request new
held-paced old new request does o asked is = (
  is.from,
  λ next cursor told asks.
      let first = is.timed next told in
      let stop = does next cursor (next-now o asked old is next (Asks request cursor) asks) in
      let whole = steps-more next stop.0 first.0 (begun o.first.0 o.first.1 0 o.of) in
      (whole.0, subst (λ (p : Playing). IsStoppedIn next p new.0) (sym (whole.1 ∙ ap (played_steps next 0 stop.0) first.1)) stop.1),
)

module _ (old : Pace) (mid : CoreState) (after : ScheduleState) (cpu : IsCpuNext old.0 old.1 mid after) where
  pub open-ticked : HasOpen IsPlayed old → IsOpenFor 0 mid.history
  open-ticked has = subst (λ (c : CoreState). IsOpenFor 0 c.history) (sym cpu.is) (open-paced old has)

  pub waiting-ticked : HasOpen IsPlayed old → mid.waiting ≡ None
  waiting-ticked (o, asked, is) = ap (λ (c : CoreState). c.waiting) cpu.is ∙ is.waiting

  module _ (o : Opening Pace) (asked : List Answered) (is : IsPlayed o asked old) where
    history-ticked : mid.history ≡ history_of o asked
    history-ticked = ap (λ (c : CoreState). c.history) cpu.is ∙ is.history

    to-ticked : (next : List Reply → Next) → IsTold next asked → LeadsBySteps next (begun o.first.0 o.first.1 0 o.of) (playing mid cpu.at false)
    to-ticked next told = more-steps o asked old is next (playing mid cpu.at false) told (cpu.ticks next)

    pub ended-paced : (new : CoreState) (how : Outcome) (cursor : ℤ) → new ≡ ended mid 0 how cursor → IsPlayedOut o asked how cursor (new, after)
    ended-paced new how cursor leaves = record {
      from = is.from;
      history =
          ap (λ (c : CoreState). c.history) leaves
          ∙ ap (λ (h : List Entry). h ++ entry_of 0 (End how cursor mid.counter) ∷ []) history-ticked
          ∙ ap (λ (n : ℕ). history_of o asked ++ entry_of 0 (End how cursor n) ∷ []) (sym (ap (λ (c : CoreState). c.counter) leaves));
      config = ap (λ (c : CoreState). c.config) leaves ∙ ap (λ (c : CoreState). c.config) cpu.is ∙ is.config;
      waiting = ap (λ (c : CoreState). c.waiting) leaves;
      timed = λ next told ends.
          let first = to-ticked next told in
          let here : next (session_replies mid.history) ≡ Ends how cursor =
          ap (λ (c : CoreState). next (session_replies c.history)) cpu.is ∙ next-now o asked old is next (Ends how cursor) ends in
          so-many next first.0 first.1
          (1, cpu.step next ∙ ap (processed (playing mid after false) 0) here ∙ ap (λ (c : CoreState). playing c after true) (sym leaves));
    }

    pub unended-paced : (new : CoreState) → new ≡ mid → IsUnended o asked (new, after)
    unended-paced new same = (
      is.from,
      λ next told.
          let first = to-ticked next told in
          (first.0, subst (λ (p : Playing). IsStoppedIn next p new) (sym first.1) (refl, inl same)),
    )
