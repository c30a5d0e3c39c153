-- A holding of a session, as the chair has seen it.
use Rattle.std.proofs.Common.{◌≡◌, ℕ, ◌≤◌, List, [], ◌∷◌, ◌++◌, Bool, true, false, refl, sym, ap, subst, ◌∙◌, arith}
use Rattle.std.specs.Prelude.{ℤ, Some, None, Result, Ok, Err, IfOk}
use Rattle.rtio_types.specs.declared.outcome.Outcome.{Outcome}
use Rattle.rtio_types.specs.declared.outcome.Outcome.TheVariants as outcome
use Rattle.rtio_types.specs.declared.request.Request.{Request}
use Rattle.rtio_types.specs.declared.request.Reply.{Reply}
use Rattle.rtio_core.specs.declared.data.Act.{Act}
use Rattle.rtio_core.specs.declared.data.Act.TheVariants.{Asked, End, Start}
use Rattle.rtio_core.specs.declared.data.Config.{Config}
use Rattle.rtio_core.specs.declared.data.Entry.{Entry}
use Rattle.rtio_core.specs.declared.data.StartOf.{StartOf}
use Rattle.rtio_core.specs.Booked.{booked_acts}
use Rattle.rtio_core.specs.Calls.{ended, started}
use Rattle.rtio_core.specs.Core.{CoreState}
use Rattle.rtio_core.specs.Entries.{act_at, last_at}
use Rattle.rtio_core.specs.Reply.{reply_to}
use Rattle.rtio_core.specs.Top.{top}
use Rattle.desk.specs.Seated.{Opened}
use Rattle.core_session.specs.Sessions.{entry_of}
use Rattle.core_session.specs.declared.turn.Turn.{Turn}
use Rattle.core_session.specs.declared.turn.Turn.TheVariants.{Replied, Again, Over}
use Rattle.lab_kernels.specs.Decided.{IsAnswered, IsNeverAnswered}
use Rattle.lab_kernels.proofs.Histories.{last-at-push}
use Rattle.desk_kernels.specs.Chairs.{CoreChair, core_entries}
use Rattle.desk_kernels.specs.Holdings.{EndsOrWaits, Holds, IsGivenUp, IsReady, IsTurnAt, IsTurnOrEnd, MayPutEnd, core_as_seen}
use Rattle.desk_kernels.proofs.Seen.{booked-entries, entries-booked}

-- nothing new
pub as-seen-same : (config : Config) (old new : CoreChair) → new.seen ≡ old.seen → core_as_seen config new ≡ core_as_seen config old
as-seen-same config old new same =
    ap (λ (seen : List (ℕ × Act)). record { config = config; history = core_entries seen; counter = last_at (core_entries seen); waiting = None }) same

-- one entry more
pub as-seen-more : (config : Config) (history : List Entry) (entry : Entry) (new : CoreChair) → core_entries new.seen ≡ history ++ entry ∷ []
    → core_as_seen config new ≡ record { config = config; history = history ++ entry ∷ []; counter = act_at entry.act; waiting = None }
as-seen-more config history entry new is =
    ap (λ (h : List Entry). record { config = config; history = h; counter = last_at h; waiting = None }) is
    ∙ ap (λ (n : ℕ). record { config = config; history = history ++ entry ∷ []; counter = n; waiting = None }) (last-at-push history entry)

module _ (desk : Opened Config) (old new : CoreChair) (was now : CoreState) (holds : Holds desk old was now new) where
  -- what the core has is what the chair has seen
  pub entries-now : core_entries new.seen ≡ now.history
  entries-now = ap core_entries holds.seen ∙ entries-booked now.history

  module _ (same : was.history ≡ core_entries old.seen) where
    entries-more : (entry : Entry) → now.history ≡ was.history ++ entry ∷ [] → core_entries new.seen ≡ core_entries old.seen ++ entry ∷ []
    entries-more entry is = entries-now ∙ is ∙ ap (λ (h : List Entry). h ++ entry ∷ []) same

    pub seen-none : now.history ≡ was.history → new.seen ≡ old.seen
    seen-none is = holds.seen ∙ ap booked_acts (is ∙ same) ∙ booked-entries old.seen

    replied-at : (request : Request) (reply : Reply) → IsAnswered was old.number request reply now → IsAnswered (core_as_seen desk.fixed old) old.number request reply (core_as_seen desk.fixed new)
    replied-at request reply is =
        let entry : Entry = entry_of old.number (Asked request reply is.at) in
        let reached : last_at was.history ≤ was.counter = holds.known.reached in
        let on : was.counter ≤ is.at = is.later in
        let late : last_at was.history ≤ is.at = omega (arith, reached, on) in
        record {
          at = is.at;
          later = subst (λ (h : List Entry). last_at h ≤ is.at) same late;
          at_top = subst (λ (h : List Entry). is.at ≡ top desk.fixed h (Some request)) same (subst (λ (c : Config). is.at ≡ top c was.history (Some request)) holds.config is.at_top);
          right = subst (λ (h : List Entry). reply_to desk.fixed h request is.at ≡ Some reply) same (subst (λ (c : Config). reply_to c was.history request is.at ≡ Some reply) holds.config is.right);
          leaves = as-seen-more desk.fixed (core_entries old.seen) entry new (entries-more entry (ap (λ (c : CoreState). c.history) is.leaves));
        }

    given-up : (request : Request) (cursor : ℤ) (mid : CoreState) → IsNeverAnswered was request mid → now ≡ ended mid old.number outcome.Horizon cursor → IsGivenUp desk.fixed old request cursor new
    given-up request cursor mid never leaves =
        let last : was.config.horizon ≡ desk.fixed.horizon = ap (λ (c : Config). c.horizon) holds.config in
        let at : mid.counter ≡ desk.fixed.horizon = never.last ∙ last in
        let reached : last_at was.history ≤ was.counter = holds.known.reached in
        let on : was.counter ≤ mid.counter = never.later.later in
        let late : last_at was.history ≤ desk.fixed.horizon = omega (arith, reached, on, at) in
        let entry : Entry = entry_of old.number (End outcome.Horizon cursor desk.fixed.horizon) in
        let put : now.history ≡ was.history ++ entry ∷ [] =
        ap (λ (c : CoreState). c.history) leaves
        ∙ ap (λ (h : List Entry). h ++ entry_of old.number (End outcome.Horizon cursor mid.counter) ∷ []) (ap (λ (c : CoreState). c.history) never.later.is)
        ∙ ap (λ (n : ℕ). was.history ++ entry_of old.number (End outcome.Horizon cursor n) ∷ []) at in
        record {
          last = record (core_as_seen desk.fixed old) { counter = desk.fixed.horizon };
          never = record {
            undecided =
                subst (λ (h : List Entry). reply_to desk.fixed h request desk.fixed.horizon ≡ None) same
                (subst (λ (c : Config). reply_to c was.history request c.horizon ≡ None) holds.config never.undecided);
            last = refl;
            later = record { is = refl; later = subst (λ (h : List Entry). last_at h ≤ desk.fixed.horizon) same late };
          };
          leaves = as-seen-more desk.fixed (core_entries old.seen) entry new (entries-more entry put);
        }

    turn-now : (request : Request) (cursor : ℤ) (turn : Turn) → IsTurnOrEnd was old.number request cursor turn now → IsTurnAt desk.fixed old request cursor turn new
    turn-now request cursor (Replied reply) is = replied-at request reply is
    turn-now request cursor (Again back) is = (is.0, seen-none is.1)
    turn-now request cursor Over (mid, never, leaves) = given-up request cursor mid never leaves

    pub turn-at : {E : Type 0} (who : ℕ) (request : Request) (cursor given : ℤ) (r : Result Turn E) → who ≡ old.number → given ≡ cursor → IfOk r (λ turn. IsTurnOrEnd was who request given turn now) → IfOk r (λ turn. IsTurnAt desk.fixed old request cursor turn new)
    turn-at who request cursor given (Ok turn) mine as-given is =
        turn-now request cursor turn
        (subst (λ (z : ℤ). IsTurnOrEnd was old.number request z turn now) as-given
        (subst (λ (n : ℕ). IsTurnOrEnd was n request given turn now) mine is))
    turn-at who request cursor given (Err e) mine as-given is = tt

    pub end-at : {E : Type 0} (who : ℕ) (how : Outcome) (cursor given : ℤ) (r : Result Bool E) → who ≡ old.number → given ≡ cursor → IfOk r (λ done. EndsOrWaits was who how given done now) → IfOk r (λ done. MayPutEnd old how cursor done new)
    end-at who how cursor given (Ok true) mine as-given is =
        (was.counter, entries-more (entry_of old.number (End how cursor was.counter)) (ap (λ (c : CoreState). c.history) (is ∙ (λ i. ended was (mine i) how (as-given i)))))
    end-at who how cursor given (Ok false) mine as-given is = seen-none (ap (λ (c : CoreState). c.history) is)
    end-at who how cursor given (Err e) mine as-given is = tt

  -- a session that has begun
  pub started-at : (of : StartOf) (cursor : ℤ) → now ≡ started was old.number of cursor → core_as_seen desk.fixed new ≡ started was old.number of cursor
  started-at of cursor is =
      let entry : Entry = entry_of old.number (Start of cursor was.counter) in
      as-seen-more desk.fixed was.history entry new (entries-now ∙ ap (λ (c : CoreState). c.history) is)
      ∙ ap (λ (c : Config). record { config = c; history = was.history ++ entry ∷ []; counter = was.counter; waiting = None }) (sym holds.config)

-- ---- tries in which the chair saw nothing new

-- what it has seen is the same
pub record Waited (desk : Opened Config) (old c : CoreChair) : Type 0 where
  pub ready : IsReady desk c
  pub number : c.number ≡ old.number
  pub seen : c.seen ≡ old.seen
