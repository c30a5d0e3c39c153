-- The steps of a session on a core.
use Rattle.std.proofs.Common.{◌≡◌, ℕ, ◌≤◌, List, [], ◌∷◌, ◌++◌, inl, inr, Some, None, refl, sym, ap, subst, ◌∙◌, append-nil, arith}
use Rattle.std.proofs.lemmas.List.Elements.{filter_map-append}
use Rattle.std.specs.Prelude.{◌⊎◌, ℤ, Option, IsSome, IsTrue, option_to_list}
use Rattle.rtio_types.specs.declared.outcome.Outcome.{Outcome}
use Rattle.rtio_types.specs.declared.outcome.Outcome.TheVariants as outcome
use Rattle.rtio_types.specs.declared.request.Request.{Request}
use Rattle.rtio_types.specs.declared.request.Request.TheVariants as ask
use Rattle.rtio_types.specs.declared.request.Reply.{Reply}
use Rattle.rtio_types.specs.declared.request.Waiting.{Waiting}
use Rattle.rtio_core.specs.declared.data.Act.TheVariants.{End, Start}
use Rattle.rtio_core.specs.declared.data.Config.{Config}
use Rattle.rtio_core.specs.declared.data.Entry.{Entry}
use Rattle.rtio_core.specs.declared.data.StartOf.{StartOf}
use Rattle.rtio_core.specs.Calls.{MayEnd, NoOtherWaits, ended, started}
use Rattle.rtio_core.specs.Core.{CoreState}
use Rattle.rtio_core.specs.Entries.{last_at, last_cursor, open_session}
use Rattle.rtio_core.specs.Lawful.{IsOpenFor}
use Rattle.rtio_core.specs.Reply.{reply_to}
use Rattle.rtio_core.specs.Top.{top}
use Rattle.sched_state.specs.declared.entry.DataSet.{DataSet}
use Rattle.core_session.proofs.Histories.{entries-push, history-push, open-history, requests-push}
use Rattle.core_session.specs.Sessions.{Answered, asked_entry, entry_of, requests_of}
use Rattle.lab_kernels.specs.CutShort.{IsDue, IsInVain}
use Rattle.lab_kernels.specs.Decided.{IsAnswered, IsHeldUp, IsNeverAnswered, WaitsFor}
use Rattle.lab_kernels.specs.Kernels.{AreAskedAtTop, set_by, sets_of}
use Rattle.lab_kernels.specs.Standing.{HasEndedOn, IsGivenUpOn, IsHeldOn, IsOpenOn, entries_so_far, history_of}
use Rattle.lab_kernels.proofs.Histories.{at-top-push, last-at-push}

-- it has just begun
pub started-on : (chair : ℕ) (old new : CoreState) (of : StartOf) (cursor : ℤ) → cursor ≡ last_cursor old.history → new ≡ started old chair of cursor → IsOpenOn chair old of cursor [] new
started-on chair old new of cursor at is = record {
  from = at;
  config = ap (λ (c : CoreState). c.config) is;
  history = ap (λ (c : CoreState). c.history) is;
  waiting = ap (λ (c : CoreState). c.waiting) is;
  steady = subst (λ (c : CoreState). c.counter ≡ last_at c.history) (sym is) (sym (last-at-push old.history _));
  later = let same : new.counter ≡ old.counter = ap (λ (c : CoreState). c.counter) is in omega (arith, same);
  at_top = (tt, tt);
}

module _ (chair : ℕ) (before : CoreState) (of : StartOf) (cursor : ℤ) (asked : List Answered) (old : CoreState) (is : IsOpenOn chair before of cursor asked old) where
  pub open-on : IsOpenFor chair old.history
  open-on = (of.rid, ap open_session is.history ∙ open-history chair before.history of cursor before.counter asked)

  pub free-on : (request : Request) → NoOtherWaits old.waiting request
  free-on request = subst (λ (v : Option Waiting). NoOtherWaits v request) (sym is.waiting) tt

  pub may-end-on : (how : Outcome) → MayEnd old.waiting how
  may-end-on how = subst (λ (v : Option Waiting). MayEnd v how) (sym is.waiting) tt

  -- a reply
  pub answered-on : (request : Request) (reply : Reply) (new : CoreState) (does : IsAnswered old chair request reply new)
      → IsOpenOn chair before of cursor (asked ++ record { request = request; reply = reply; at = does.at } ∷ []) new
  answered-on request reply new does =
      let one : Answered = record { request = request; reply = reply; at = does.at } in
      record {
        from = is.from;
        config = ap (λ (c : CoreState). c.config) does.leaves ∙ is.config;
        history =
            ap (λ (c : CoreState). c.history) does.leaves
            ∙ ap (λ (h : List Entry). h ++ asked_entry chair one ∷ []) is.history
            ∙ history-push chair before.history of cursor before.counter asked one;
        waiting = ap (λ (c : CoreState). c.waiting) does.leaves;
        steady = ap (λ (c : CoreState). c.counter) does.leaves ∙ sym (ap (λ (c : CoreState). last_at c.history) does.leaves ∙ last-at-push old.history (asked_entry chair one));
        later =
            let there : new.counter ≡ does.at = ap (λ (c : CoreState). c.counter) does.leaves in
            let first = is.later in
            let up = does.later in
            omega (arith, there, first, up);
        at_top =
            subst (AreAskedAtTop before.config before.history) (entries-push chair before.history of cursor before.counter asked one)
            (at-top-push before.config before.history (entries_so_far chair before of cursor asked) (asked_entry chair one) is.at_top
            (cc (does.at_top, is.config, is.history)));
      }

  -- an end, at whichever counter
  pub ended-on : (how : Outcome) (end : ℤ) (after : List Entry) (at : ℕ) → after ≡ old.history ++ entry_of chair (End how end at) ∷ [] → HasEndedOn chair before of cursor asked how end after at
  ended-on how end after at put = record { from = is.from; history = put ∙ ap (λ (h : List Entry). h ++ entry_of chair (End how end at) ∷ []) is.history; at_top = is.at_top }

  -- an end at the horizon
  pub given-up-on : (request : Request) (end : ℤ) (mid new : CoreState) → IsNeverAnswered old request mid → new ≡ ended mid chair outcome.Horizon end → IsGivenUpOn chair before of cursor asked request end new.history new.counter
  given-up-on request end mid new never leaves = record {
    ended = ended-on outcome.Horizon end new.history new.counter
        (ap (λ (c : CoreState). c.history) leaves
        ∙ ap (λ (c : CoreState). c.history ++ entry_of chair (End outcome.Horizon end mid.counter) ∷ []) never.later.is
        ∙ ap (λ (n : ℕ). old.history ++ entry_of chair (End outcome.Horizon end n) ∷ []) (sym (ap (λ (c : CoreState). c.counter) leaves)));
    in_time = ap (λ (c : CoreState). c.counter) leaves ∙ never.last ∙ ap (λ (c : Config). c.horizon) is.config;
    undecided =
        subst (λ (h : List Entry). reply_to before.config h request before.config.horizon ≡ None) is.history
        (subst (λ (c : Config). reply_to c old.history request c.horizon ≡ None) is.config never.undecided);
  }

  -- ---- without memory

  -- the request wasn't asked
  pub still-on : (request : Request) → IsHeldOn chair before of cursor asked request old
  still-on request =
      record { from = is.from; config = is.config; history = is.history; later = is.later; at_top = is.at_top; stands = inl (is.steady, is.waiting) }

  -- it would get its reply
  pub due-on : (request : Request) (new : CoreState) → IsHeldUp old request new → IsHeldOn chair before of cursor asked request new
  due-on request new held =
      let first = is.later in
      let up = held.later.later in
      record {
        from = is.from;
        config = ap (λ (c : CoreState). c.config) held.later.is ∙ is.config;
        history = ap (λ (c : CoreState). c.history) held.later.is ∙ is.history;
        later = omega (arith, first, up);
        at_top = is.at_top;
        stands = inr (inl (record {
          at_top = held.at_top ∙ sym (ap (λ (c : CoreState). top c.config c.history (Some request)) held.later.is);
          decided = subst (λ (c : CoreState). IsSome (reply_to c.config c.history request new.counter)) (sym held.later.is) held.decided;
          waits = waits held.waits;
        }));
      }
    where
      waits : (new.waiting ≡ old.waiting) ⊎ ((reply_to old.config old.history request (top old.config old.history None) ≡ None) × WaitsFor new request)
          → (new.waiting ≡ None) ⊎ ((reply_to new.config new.history request (top new.config new.history None) ≡ None) × WaitsFor new request)
      waits (inl same) = inl (same ∙ is.waiting)
      waits (inr (undecided, its)) =
          inr (subst (λ (c : CoreState). reply_to c.config c.history request (top c.config c.history None) ≡ None) (sym held.later.is) undecided, its)

  -- or it waits at the horizon
  pub vain-on : (request : Request) (mid new : CoreState) → IsNeverAnswered old request mid → WaitsFor mid request → new ≡ mid → IsHeldOn chair before of cursor asked request new
  vain-on request mid new never waits same =
      let first = is.later in
      let up = never.later.later in
      subst (IsHeldOn chair before of cursor asked request) (sym same) (record {
        from = is.from;
        config = ap (λ (c : CoreState). c.config) never.later.is ∙ is.config;
        history = ap (λ (c : CoreState). c.history) never.later.is ∙ is.history;
        later = omega (arith, first, up);
        at_top = is.at_top;
        stands = inr (inr (record {
          last = never.last ∙ sym (ap (λ (c : CoreState). c.config.horizon) never.later.is);
          undecided = subst (λ (c : CoreState). reply_to c.config c.history request c.config.horizon ≡ None) (sym never.later.is) never.undecided;
          waits = waits;
        }));
      })

-- ---- the datasets

-- one request more
pub sets-push : (asked : List Answered) (a : Answered) (sets more : List DataSet) → sets ≡ sets_of (requests_of asked) → more ≡ sets ++ option_to_list (set_by a.request) → more ≡ sets_of (requests_of (asked ++ a ∷ []))
sets-push asked a sets more are kept =
    kept
    ∙ ap (λ (l : List DataSet). l ++ option_to_list (set_by a.request)) are
    ∙ ap (λ (l : List DataSet). sets_of (requests_of asked) ++ l) (one-set (set_by a.request) refl)
    ∙ sym (filter_map-append set_by (requests_of asked) (a.request ∷ []))
    ∙ sym (ap sets_of (requests-push asked a))
  where
    one-set : (o : Option DataSet) → set_by a.request ≡ o → option_to_list (set_by a.request) ≡ sets_of (a.request ∷ [])
    one-set None none = rw none refl
    one-set (Some d) some = rw some refl

-- a request that isn't decided sets no dataset
sets-nothing : (config : Config) (history : List Entry) (request : Request) (counter : ℕ) → reply_to config history request counter ≡ None → set_by request ≡ None
sets-nothing config history (ask.Data name value) counter none = absurd (cc)
sets-nothing config history (ask.Out e) counter none = refl
sets-nothing config history ask.Counter counter none = refl
sets-nothing config history ask.Reset counter none = refl
sets-nothing config history (ask.Wait until) counter none = refl
sets-nothing config history (ask.Edge channel up_to) counter none = refl
sets-nothing config history (ask.Save name recording) counter none = refl
sets-nothing config history (ask.Fetch name) counter none = refl
sets-nothing config history (ask.FetchHandle handle) counter none = refl
sets-nothing config history (ask.Handle name) counter none = refl
sets-nothing config history (ask.Erase name) counter none = refl

pub sets-same : (config : Config) (history : List Entry) (request : Request) (counter : ℕ) (sets more set : List DataSet) → reply_to config history request counter ≡ None → more ≡ sets ++ option_to_list (set_by request) → sets ≡ set → more ≡ set
sets-same config history request counter sets more set none kept are =
    kept ∙ ap (λ (o : Option DataSet). sets ++ option_to_list o) (sets-nothing config history request counter none) ∙ append-nil sets ∙ are
