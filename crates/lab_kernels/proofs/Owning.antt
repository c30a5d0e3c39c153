-- A session on a core of one's own.
use Rattle.std.proofs.Common.{◌≡◌, ℕ, ◌+◌, List, [], ◌∷◌, ◌++◌, length, Some, None, IsTrue, refl, sym, ap, subst, ◌∙◌, length-append}
use Rattle.std.specs.Prelude.{ℤ, Option, Result, Ok, Err, IfOk, OnOk, option_to_list}
use Rattle.rtio_types.specs.declared.outcome.Outcome.{Outcome}
use Rattle.rtio_types.specs.declared.outcome.Outcome.TheVariants as outcome
use Rattle.rtio_types.specs.declared.request.Request.{Request}
use Rattle.rtio_types.specs.declared.request.Reply.{Reply}
use Rattle.rtio_types.specs.declared.request.Waiting.{Waiting}
use Rattle.rtio_core.specs.declared.data.Act.TheVariants.{End}
use Rattle.rtio_core.specs.declared.data.Entry.{Entry}
use Rattle.rtio_core.specs.declared.data.StartOf.{StartOf}
use Rattle.rtio_types.specs.Requests.{fits_request}
use Rattle.rtio_core.specs.Calls.{MayEnd, NoOtherWaits, ended, started}
use Rattle.rtio_core.specs.Core.{CoreState}
use Rattle.rtio_core.specs.Entries.{last_at, last_cursor}
use Rattle.rtio_core.specs.Lawful.{AreFitting, IsOpenFor}
use Rattle.core_session.proofs.Histories.{fits-last}
use Rattle.core_session.specs.Lending.{HasOpen, IsAskedSo, Opening, began}
use Rattle.core_session.specs.Sessions.{Answered, entry_of, requests_of}
use Rattle.lab_kernels.specs.Decided.{IsAnswered, IsNeverAnswered}
use Rattle.lab_kernels.specs.Kernels.{set_by, sets_of}
use Rattle.lab_kernels.specs.Owning.{IsOwnEnded, IsOwnGivenUp, IsOwnOpen, Own}
use Rattle.lab_kernels.proofs.Standing.{answered-on, ended-on, free-on, given-up-on, may-end-on, open-on, sets-push, sets-same, started-on}

module _ (chair : ℕ) (old : Own) where
  pub open-own : HasOpen (IsOwnOpen chair) old → IsOpenFor chair old.0.history
  open-own (o, asked, is) = open-on chair o.first.0 o.of o.cursor asked old.0 is.0

  pub free-own : (request : Request) → HasOpen (IsOwnOpen chair) old → NoOtherWaits old.0.waiting request
  free-own request (o, asked, is) = free-on chair o.first.0 o.of o.cursor asked old.0 is.0 request

  pub may-end-own : (how : Outcome) → HasOpen (IsOwnOpen chair) old → MayEnd old.0.waiting how
  may-end-own how (o, asked, is) = may-end-on chair o.first.0 o.of o.cursor asked old.0 is.0 how

  -- at the horizon a session may end whatever waits
  pub open-never : (request : Request) (mid : CoreState) → IsNeverAnswered old.0 request mid → HasOpen (IsOwnOpen chair) old → IsOpenFor chair mid.history
  open-never request mid never has = subst (λ (c : CoreState). IsOpenFor chair c.history) (sym never.later.is) (open-own has)

  pub replied-own : (new : Own) (request : Request) (cursor : ℤ) (reply : Reply) → IsAnswered old.0 chair request reply new.0 → new.1.items ≡ old.1.items ++ option_to_list (set_by request)
      → IsAskedSo (IsOwnOpen chair) (IsOwnGivenUp chair) old request cursor (Some reply) new
  replied-own new request cursor reply does kept o asked is =
      let one : Answered = record { request = request; reply = reply; at = does.at } in
      (does.at, (answered-on chair o.first.0 o.of o.cursor asked old.0 is.0 request reply new.0 does, sets-push asked one old.1.items new.1.items is.1 kept))

  pub given-up-own : (new : Own) (request : Request) (cursor given : ℤ) (mid : CoreState) → IsNeverAnswered old.0 request mid → given ≡ cursor → new.0 ≡ ended mid chair outcome.Horizon given → new.1.items ≡ old.1.items ++ option_to_list (set_by request)
      → IsAskedSo (IsOwnOpen chair) (IsOwnGivenUp chair) old request cursor None new
  given-up-own new request cursor given mid never as-given leaves kept o asked is =
      let leaves' : new.0 ≡ ended mid chair outcome.Horizon cursor = leaves ∙ ap (λ (z : ℤ). ended mid chair outcome.Horizon z) as-given in
      record {
        ended = given-up-on chair o.first.0 o.of o.cursor asked old.0 is.0 request cursor mid new.0 never leaves';
        config = ap (λ (c : CoreState). c.config) leaves' ∙ ap (λ (c : CoreState). c.config) never.later.is ∙ is.0.config;
        waiting = ap (λ (c : CoreState). c.waiting) leaves';
        sets = sets-same old.0.config old.0.history request old.0.config.horizon old.1.items new.1.items (sets_of (requests_of asked)) never.undecided kept is.1;
      }

  pub ended-own : (new : Own) (how : Outcome) (cursor given : ℤ) → given ≡ cursor → new.0 ≡ ended old.0 chair how given → new.1.items ≡ old.1.items
      → (o : Opening Own) (asked : List Answered) → IsOwnOpen chair o asked old → IsOwnEnded chair o asked how cursor new
  ended-own new how cursor given as-given leaves kept o asked is =
      let leaves' : new.0 ≡ ended old.0 chair how cursor = leaves ∙ ap (λ (z : ℤ). ended old.0 chair how z) as-given in
      let same : new.0.counter ≡ old.0.counter = ap (λ (c : CoreState). c.counter) leaves' in
      record {
        ended = ended-on chair o.first.0 o.of o.cursor asked old.0 is.0 how cursor new.0.history new.0.counter
            (ap (λ (c : CoreState). c.history) leaves' ∙ ap (λ (n : ℕ). old.0.history ++ entry_of chair (End how cursor n) ∷ []) (sym same));
        config = ap (λ (c : CoreState). c.config) leaves' ∙ is.0.config;
        waiting = ap (λ (c : CoreState). c.waiting) leaves';
        prompt = same ∙ is.0.steady ∙ ap last_at is.0.history;
        sets = kept ∙ is.1;
      }

  -- no memory for the end
  pub unended-own : (new : CoreState) → new ≡ old.0 → (o : Opening Own) (asked : List Answered) → IsOwnOpen chair o asked old → IsOwnOpen chair o asked (new, old.1)
  unended-own new same o asked is = subst (λ (c : CoreState). IsOwnOpen chair o asked (c, old.1)) (sym same) is

  -- it has just begun
  pub started-own : {E : Type 0} (new : CoreState) (of : StartOf) (r : Result ℤ E) → old.1.items ≡ [] → IfOk r (λ cursor. cursor ≡ last_cursor old.0.history) → OnOk r (new ≡ started old.0 chair of (last_cursor old.0.history))
      → IfOk r (λ cursor. IsOwnOpen chair (began old of cursor) [] (new, old.1))
  started-own new of (Ok cursor) none at is = (started-on chair old.0 new of cursor at (is ∙ ap (λ (z : ℤ). started old.0 chair of z) (sym at)), none)
  started-own new of (Err e) none at is = tt

module _ (chair : ℕ) (old new : CoreState) (request : Request) (reply : Reply) (does : IsAnswered old chair request reply new) where
  -- the reply fits, and is the only entry more
  pub fits-own : AreFitting new.history → IsTrue (fits_request request reply)
  fits-own fit = fits-last old.history new.history chair request reply does.at (ap (λ (c : CoreState). c.history) does.leaves) fit

  pub more-own : length new.history ≡ length old.history + 1
  more-own = ap (λ (c : CoreState). length c.history) does.leaves ∙ length-append old.history _
