-- The whole session, from the core before it.
use Rattle.std.proofs.Common.{◌≡◌, ℕ, ◌≤◌, List, [], ◌∷◌, ◌++◌, None, inl, inr, refl, sym, ap, subst, ◌∙◌, append_assoc}
use Rattle.std.specs.Prelude.{◌⊎◌, ℤ, Result, Ok, Err, IfOk, OnErr, FitsSigned}
use Rattle.std.specs.Int.{w64}
use Rattle.rtio_types.specs.declared.outcome.Outcome.{Outcome}
use Rattle.rtio_types.specs.declared.outcome.Outcome.TheVariants as outcome
use Rattle.rtio_types.specs.declared.request.Request.{Request}
use Rattle.rtio_core.specs.declared.data.Act.TheVariants.{End}
use Rattle.rtio_core.specs.declared.data.Entry.{Entry}
use Rattle.rtio_core.specs.declared.data.StartOf.{StartOf}
use Rattle.rtio_core.specs.Entries.{last_at, last_cursor}
use Rattle.rtio_core.specs.Core.{CoreState}
use Rattle.sched_state.specs.declared.entry.DataSet.{DataSet}
use Rattle.core_isa.specs.declared.code.Code.{Code}
use Rattle.core_isa.specs.Runs.{Runs}
use Rattle.core_session.specs.Asking.{CodeAsks, HaveRun}
use Rattle.core_session.specs.Lending.{Ends, EndsBy, GivesUp, HasClosed, HasRun as HasRunLent, IsLeft, LeavesSession, Opening, Session, began, start_of}
use Rattle.core_session.specs.Sessions.{Account, Answered, EndsAs, account_of, entry_of, replies_of, requests_of}
use Rattle.lab_kernels.specs.CutShort.{CutsCode, IsDue, IsInVain, IsStopped, LeavesCode}
use Rattle.lab_kernels.specs.Kernels.{AreAskedAtTop, IsEndInTime, IsPromptEnd, KernelRun, sets_of}
use Rattle.lab_kernels.specs.Owning.{IsOwnEnded, IsOwnGivenUp, IsOwnHeld, IsOwnOpen, Own}
use Rattle.lab_kernels.specs.Runs.{HasRun, RunsCode}
use Rattle.lab_kernels.specs.Standing.{HasEndedOn, IsGivenUpOn, IsHeldOn, IsOpenOn, entries_so_far, history_of}
use Rattle.lab_kernels.proofs.Histories.{at-top-push, prompt-session}

-- ---- what stands on a core behind a session

-- its end stands behind its requests, which are those of the account
pub record IsClosedOn (chair : ℕ) (before : CoreState) (of : StartOf) (cursor : ℤ) (asked : List Answered) (a : Account) (how : Outcome) (end : ℤ) (after : List Entry) (at : ℕ) : Type 0 where
  pub from : cursor ≡ last_cursor before.history
  pub history : after ≡ history_of chair before of cursor asked ++ entry_of chair (End how end at) ∷ []
  pub at_top : AreAskedAtTop before.config before.history (entries_so_far chair before of cursor asked ++ entry_of chair (End how end at) ∷ [])
  pub ends : EndsAs before.config (history_of chair before of cursor asked) asked a how end

module _ (chair : ℕ) (before : CoreState) (of : StartOf) (cursor : ℤ) (asked : List Answered) (a : Account) (end : ℤ) (after : List Entry) (at : ℕ) where
  pub closed-on : (how : Outcome) → HasEndedOn chair before of cursor asked how end after at → IsEndInTime before.config how at → EndsAs before.config (history_of chair before of cursor asked) asked a how end
      → IsClosedOn chair before of cursor asked a how end after at
  closed-on how ended in-time ends = record {
    from = ended.from;
    history = ended.history;
    at_top = at-top-push before.config before.history (entries_so_far chair before of cursor asked) (entry_of chair (End how end at)) ended.at_top in-time;
    ends = ends;
  }

  pub given-up-closed : (last : Request) → IsGivenUpOn chair before of cursor asked last end after at → (a.outcome ≡ None) → (end ≡ a.cursor) → (a.requests ≡ requests_of asked ++ last ∷ [])
      → IsClosedOn chair before of cursor asked a outcome.Horizon end after at
  given-up-closed last up none same requests = closed-on outcome.Horizon up.ended up.in_time (none, same, (last, requests, up.undecided))

-- a session as it is told
abbrev pub run_of : (of : StartOf) (before : CoreState) (asked : List Answered) (how : Outcome) (cursor : ℤ) (at steps : ℕ) → KernelRun
run_of of before asked how cursor at steps = record { of = of; started = before.counter; asked = asked; how = how; cursor = cursor; ended = at; steps = steps }

-- its history, with the cursor of the last end before it
pub closed-history : (chair : ℕ) (before : CoreState) (of : StartOf) (cursor : ℤ) (asked : List Answered) (a : Account) (how : Outcome) (end : ℤ) (after : List Entry) (at : ℕ) → IsClosedOn chair before of cursor asked a how end after at
    → IsClosedOn chair before of (last_cursor before.history) asked a how end after at
closed-history chair before of cursor asked a how end after at c = subst (λ (z : ℤ). IsClosedOn chair before of z asked a how end after at) c.from c

pub runs-code : {M : Type 0} (HasOver : Ends M) (IsGivenUp : GivesUp M) (chair : ℕ) (before : CoreState) (code : Code) (units : ℕ) (o : Opening M) (asked : List Answered) (now : M) (how : Outcome) (steps : ℕ) (after : List Entry) (at : ℕ)
    → (c : HasClosed HasOver IsGivenUp (record { code = code; units = units; opening = o }) asked now how steps) → IsClosedOn chair before o.of o.cursor asked (account_of c.ran) how c.cursor after at
    → RunsCode code units chair before.config before.history (run_of o.of before asked how c.cursor at steps)
runs-code HasOver IsGivenUp chair before code units o asked now how steps after at c on = record {
  ran = c.ran;
  runs = subst (λ (z : ℤ). Runs code o.of.function o.of.args z units (replies_of asked) c.ran) on.from c.runs;
  ends = (closed-history chair before o.of o.cursor asked (account_of c.ran) how c.cursor after at on).ends;
  counted = c.counted;
  fit = c.fit;
  numbers = c.run.numbers;
  from = subst (FitsSigned w64) on.from c.run.from;
}

-- ---- a core of one's own

record IsOwnClosed (chair : ℕ) (o : Opening Own) (asked : List Answered) (a : Account) (how : Outcome) (end : ℤ) (now : Own) : Type 0 where
  pub on : IsClosedOn chair o.first.0 o.of o.cursor asked a how end now.0.history now.0.counter
  pub config : now.0.config ≡ o.first.0.config
  pub waiting : now.0.waiting ≡ None
  pub prompt : IsPromptEnd (history_of chair o.first.0 o.of o.cursor asked) how now.0.counter
  pub sets : now.1.items ≡ sets_of (requests_of asked)

own-closed : (chair : ℕ) (o : Opening Own) (asked : List Answered) (a : Account) (how : Outcome) (end : ℤ) (now : Own) → EndsBy (IsOwnEnded chair) (IsOwnGivenUp chair) o asked a how end now → IsOwnClosed chair o asked a how end now
own-closed chair o asked a outcome.Horizon end now (none, same, (last, requests, up)) = record {
  on = given-up-closed chair o.first.0 o.of o.cursor asked a end now.0.history now.0.counter last up.ended none same requests;
  config = up.config;
  waiting = up.waiting;
  prompt = tt;
  sets = up.sets;
}
own-closed chair o asked a outcome.Returned end now (is, same, requests, over) = record {
  on = closed-on chair o.first.0 o.of o.cursor asked a end now.0.history now.0.counter outcome.Returned over.ended tt (is, same, requests);
  config = over.config;
  waiting = over.waiting;
  prompt = over.prompt;
  sets = over.sets;
}
own-closed chair o asked a (outcome.Raised x) end now (is, same, requests, over) = record {
  on = closed-on chair o.first.0 o.of o.cursor asked a end now.0.history now.0.counter (outcome.Raised x) over.ended tt (is, same, requests);
  config = over.config;
  waiting = over.waiting;
  prompt = over.prompt;
  sets = over.sets;
}
own-closed chair o asked a outcome.Budget end now (is, same, requests, over) = record {
  on = closed-on chair o.first.0 o.of o.cursor asked a end now.0.history now.0.counter outcome.Budget over.ended tt (is, same, requests);
  config = over.config;
  waiting = over.waiting;
  prompt = over.prompt;
  sets = over.sets;
}

pub has-run : (chair : ℕ) (code : Code) (of : StartOf) (units : ℕ) (old new : Own) (how : Outcome) (steps : ℕ) → HasRunLent (IsOwnEnded chair) (IsOwnGivenUp chair) code units of old new how steps
    → HasRun code units chair of old.0 new.0 (record { outcome = how; sets = new.1.items; steps = steps })
has-run chair code of units old new how steps ran =
    let o : Opening Own = began old of ran.cursor in
    let c = ran.closed in
    let a : Account = account_of c.ran in
    let own : IsOwnClosed chair o ran.asked a how c.cursor new = own-closed chair o ran.asked a how c.cursor new c.ends in
    let on = closed-history chair old.0 of ran.cursor ran.asked a how c.cursor new.0.history new.0.counter own.on in
    let last : Entry = entry_of chair (End how c.cursor new.0.counter) in
    let z : ℤ = last_cursor old.0.history in
    record {
      k = run_of of old.0 ran.asked how c.cursor new.0.counter steps;
      adds = record {
        of_is = refl;
        started = refl;
        history = on.history ∙ append_assoc old.0.history (entries_so_far chair old.0 of z ran.asked) (last ∷ []);
        config = own.config;
        waiting = own.waiting;
        counter = refl;
        at_top = on.at_top;
        prompt = λ steady. prompt-session chair old.0 of z ran.asked last steady
            (subst (λ (x : ℤ). IsPromptEnd (history_of chair old.0 of x ran.asked) how new.0.counter) own.on.from own.prompt);
      };
      runs = runs-code (IsOwnEnded chair) (IsOwnGivenUp chair) chair old.0 code units o ran.asked new how steps new.0.history new.0.counter c own.on;
      told = ap (λ (l : List DataSet). record { outcome = how; sets = l; steps = steps }) own.sets;
    }

-- ---- without memory

-- the session was left so on the core, with the cursor at which it began
pub record IsCutOn (code : Code) (units chair : ℕ) (of : StartOf) (old : CoreState) (cursor : ℤ) (asked : List Answered) (new : CoreState) : Type 0 where
  pub run : HaveRun code (record { function = of.function; args = of.args; cursor = cursor; units = units }) asked
  pub config : new.config ≡ old.config
  pub history : new.history ≡ history_of chair old of cursor asked
  pub later : old.counter ≤ new.counter
  pub at_top : AreAskedAtTop old.config old.history (entries_so_far chair old of cursor asked)
  pub stands : IsStopped (CodeAsks code (record { function = of.function; args = of.args; cursor = cursor; units = units }) asked) new

module _ (code : Code) (units chair : ℕ) (of : StartOf) (old : CoreState) (cursor : ℤ) (asked : List Answered) (new : CoreState) where
  pub cuts-code : cursor ≡ last_cursor old.history → IsCutOn code units chair of old cursor asked new → CutsCode code units chair of old new
  cuts-code from on =
      let cut : IsCutOn code units chair of old (last_cursor old.history) asked new = subst (λ (z : ℤ). IsCutOn code units chair of old z asked new) from on in
      record {
        cut = record {
          asked = asked;
          history = cut.history;
          config = cut.config;
          later = cut.later;
          at_top = cut.at_top;
          asks = cut.run.asks;
          stands = cut.stands;
        };
        fit = cut.run.fit;
        numbers = cut.run.numbers;
        from = cut.run.from;
      }

  module _ (run : HaveRun code (record { function = of.function; args = of.args; cursor = cursor; units = units }) asked) where
    pub cut-open : IsOpenOn chair old of cursor asked new → IsCutOn code units chair of old cursor asked new
    cut-open is = record { run = run; config = is.config; history = is.history; later = is.later; at_top = is.at_top; stands = inl (is.steady, is.waiting) }

    pub cut-held : (request : Request) → CodeAsks code (record { function = of.function; args = of.args; cursor = cursor; units = units }) asked request → IsHeldOn chair old of cursor asked request new
        → IsCutOn code units chair of old cursor asked new
    cut-held request asks held = record { run = run; config = held.config; history = held.history; later = held.later; at_top = held.at_top; stands = by-kind held.stands }
      where
        by-kind : ((new.counter ≡ last_at new.history) × (new.waiting ≡ None)) ⊎ (IsDue new request ⊎ IsInVain new request) → IsStopped (CodeAsks code (record { function = of.function; args = of.args; cursor = cursor; units = units }) asked) new
        by-kind (inl still) = inl still
        by-kind (inr how) = inr (request, asks, how)

pub leaves-code : (chair : ℕ) (code : Code) (of : StartOf) (units : ℕ) (old new : Own) → LeavesSession (IsOwnOpen chair) (IsOwnOpen chair) (IsOwnHeld chair) (λ was now. now.0 ≡ was.0) code units of old new → LeavesCode code units chair of old.0 new.0
leaves-code chair code of units old new (inl same) = inl (ap (λ (m : Own). m.0) same)
leaves-code chair code of units old new (inr (inl unstarted)) = inl unstarted
leaves-code chair code of units old new (inr (inr (cursor, asked, left))) = inr (by-kind left.stands)
  where
    by-kind : IsOwnOpen chair (began old of cursor) asked new ⊎ (IsOwnOpen chair (began old of cursor) asked new ⊎ ((request : Request) × CodeAsks code (start_of units (began old of cursor)) asked request × IsOwnHeld chair (began old of cursor) asked request new))
        → CutsCode code units chair of old.0 new.0
    by-kind (inl is) = cuts-code code units chair of old.0 cursor asked new.0 is.0.from (cut-open code units chair of old.0 cursor asked new.0 left.run is.0)
    by-kind (inr (inl is)) = cuts-code code units chair of old.0 cursor asked new.0 is.0.from (cut-open code units chair of old.0 cursor asked new.0 left.run is.0)
    by-kind (inr (inr (request, asks, held))) = cuts-code code units chair of old.0 cursor asked new.0 held.from (cut-held code units chair of old.0 cursor asked new.0 left.run request asks held)
