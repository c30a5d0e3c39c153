-- A session on a core that is lent from its desk.
use Rattle.std.proofs.Common.{◌≡◌, ℕ, ◌+◌, List, [], ◌∷◌, ◌++◌, length, Some, None, IsTrue, refl, sym, ap, subst, ◌∙◌, length-append}
use Rattle.std.specs.Prelude.{ℤ, IfSome, IsSome, Option, option_to_list}
use Rattle.rtio_types.specs.declared.outcome.Outcome.{Outcome}
use Rattle.rtio_types.specs.declared.outcome.Outcome.TheVariants as outcome
use Rattle.rtio_types.specs.declared.request.Reply.{Reply}
use Rattle.rtio_types.specs.declared.request.Request.{Request}
use Rattle.rtio_types.specs.Requests.{fits_request}
use Rattle.rtio_core.specs.declared.data.Act.TheVariants.{End}
use Rattle.rtio_core.specs.declared.data.Config.{Config}
use Rattle.rtio_core.specs.declared.data.Entry.{Entry}
use Rattle.rtio_core.specs.declared.data.StartOf.{StartOf}
use Rattle.rtio_core.specs.Calls.{ended}
use Rattle.rtio_core.specs.Core.{CoreState}
use Rattle.rtio_core.specs.Lawful.{IsOpenFor}
use Rattle.desk.specs.Seated.{Opened}
use Rattle.core_session.proofs.Histories.{fits-last}
use Rattle.core_session.specs.Lending.{HasOpen, IsAskedSo, Opening, began}
use Rattle.core_session.specs.Sessions.{Answered, entry_of, requests_of}
use Rattle.lab_kernels.specs.Decided.{IsAnswered, IsNeverAnswered}
use Rattle.lab_kernels.specs.Kernels.{set_by, sets_of}
use Rattle.lab_kernels.specs.Standing.{HasEndedOn, IsGivenUpOn, IsOpenOn}
use Rattle.lab_kernels.proofs.Standing.{answered-on, ended-on, given-up-on, open-on, sets-push, sets-same, started-on}
use Rattle.desk_kernels.specs.Chairs.{CoreChair, core_entries}
use Rattle.desk_kernels.specs.Holdings.{GoesOn, HasPutEnd, HasStarted, IsDecidedAt, IsGivenUp, IsReady, core_as_seen}
use Rattle.desk_kernels.specs.Sessions.{HasEndedAt, HasFound, HasGivenUpAt, IsOpenAt, IsSeenOpen, Seat}
use Rattle.desk_kernels.proofs.Held.{goes-on}
use Rattle.desk_kernels.proofs.Turned.{as-seen-same, started-at}

-- it has just begun
pub started-seen : (desk : Opened Config) (old new : Seat) (of : StartOf) (cursor : ℤ) → HasStarted desk old.0 of cursor new.0 → IsSeenOpen desk (began old of cursor) [] new.0
started-seen desk old new of cursor begun = record {
  was = begun.was;
  found = record { config = begun.holds.config; found = begun.holds.found; own = begun.holds.own; goes = begun.holds.goes };
  on = started-on old.0.number begun.was (core_as_seen desk.fixed new.0) of cursor begun.from
      (started-at desk old.0 new.0 begun.was begun.now begun.holds of cursor begun.leaves);
}

module _ (desk : Opened Config) (old : Seat) where
  pub ready-at : HasOpen (IsOpenAt desk) old → IsReady desk old.0
  ready-at (o, asked, is) = is.0.found.goes.ready

  pub open-at : HasOpen (IsOpenAt desk) old → IsOpenFor old.0.number (core_entries old.0.seen)
  open-at (o, asked, is) =
      subst (λ (n : ℕ). IsOpenFor n (core_entries old.0.seen)) (sym is.0.found.goes.number)
      (open-on o.first.0.number is.0.was o.of o.cursor asked (core_as_seen desk.fixed old.0) is.0.on)

  module _ (new : Seat) (goes : GoesOn desk old.0 new.0) where
    found-on : (o : Opening Seat) (was : CoreState) → HasFound desk o.first.0 was old.0 → HasFound desk o.first.0 was new.0
    found-on o was found = record { config = found.config; found = found.found; own = found.own; goes = goes-on desk o.first.0 old.0 new.0 found.goes goes }

    -- where the chair has seen nothing new the session stands as before
    pub seen-still : new.0.seen ≡ old.0.seen → (o : Opening Seat) (asked : List Answered) → IsSeenOpen desk o asked old.0 → IsSeenOpen desk o asked new.0
    seen-still same o asked is = record {
      was = is.was;
      found = found-on o is.was is.found;
      on = subst (IsOpenOn o.first.0.number is.was o.of o.cursor asked) (sym (as-seen-same desk.fixed old.0 new.0 same)) is.on;
    }

    -- a reply
    replied-at : (request : Request) (reply : Reply) → IsAnswered (core_as_seen desk.fixed old.0) old.0.number request reply (core_as_seen desk.fixed new.0) → new.1.items ≡ old.1.items ++ option_to_list (set_by request)
        → (o : Opening Seat) (asked : List Answered) → IsOpenAt desk o asked old → (at : ℕ) × IsOpenAt desk o (asked ++ record { request = request; reply = reply; at = at } ∷ []) new
    replied-at request reply does kept o asked is =
        let mine : IsAnswered (core_as_seen desk.fixed old.0) o.first.0.number request reply (core_as_seen desk.fixed new.0) =
        subst (λ (n : ℕ). IsAnswered (core_as_seen desk.fixed old.0) n request reply (core_as_seen desk.fixed new.0)) is.0.found.goes.number does in
        let one : Answered = record { request = request; reply = reply; at = mine.at } in (
          mine.at,
          (
            record {
              was = is.0.was;
              found = found-on o is.0.was is.0.found;
              on = answered-on o.first.0.number is.0.was o.of o.cursor asked (core_as_seen desk.fixed old.0) is.0.on request reply (core_as_seen desk.fixed new.0) mine;
            },
            sets-push asked one old.1.items new.1.items is.1 kept,
          ),
        )

    -- an end at the horizon
    given-up-at : (request : Request) (cursor : ℤ) → IsGivenUp desk.fixed old.0 request cursor new.0 → new.1.items ≡ old.1.items ++ option_to_list (set_by request)
        → (o : Opening Seat) (asked : List Answered) → IsOpenAt desk o asked old → HasGivenUpAt desk o asked request cursor new
    given-up-at request cursor up kept o asked is =
        let leaves : core_as_seen desk.fixed new.0 ≡ ended up.last o.first.0.number outcome.Horizon cursor =
        subst (λ (n : ℕ). core_as_seen desk.fixed new.0 ≡ ended up.last n outcome.Horizon cursor) is.0.found.goes.number up.leaves in
        record {
          was = is.0.was;
          found = found-on o is.0.was is.0.found;
          at = (core_as_seen desk.fixed new.0).counter;
          ended = given-up-on o.first.0.number is.0.was o.of o.cursor asked (core_as_seen desk.fixed old.0) is.0.on request cursor up.last (core_as_seen desk.fixed new.0) up.never leaves;
          sets = sets-same desk.fixed (core_entries old.0.seen) request desk.fixed.horizon old.1.items new.1.items (sets_of (requests_of asked)) up.never.undecided kept is.1;
        }

    pub asked-at : (request : Request) (cursor given : ℤ) (reply : Option Reply) → given ≡ cursor → IsDecidedAt desk.fixed old.0 request given reply new.0 → new.1.items ≡ old.1.items ++ option_to_list (set_by request)
        → IsAskedSo (IsOpenAt desk) (HasGivenUpAt desk) old request cursor reply new
    asked-at request cursor given (Some reply) as-given does kept = replied-at request reply does kept
    asked-at request cursor given None as-given does kept =
        given-up-at request cursor (subst (λ (z : ℤ). IsGivenUp desk.fixed old.0 request z new.0) as-given does) kept

    -- the reply fits, and is the only entry more
    pub fits-at : (request : Request) (reply : Reply) → IsAnswered (core_as_seen desk.fixed old.0) old.0.number request reply (core_as_seen desk.fixed new.0) → IsTrue (fits_request request reply)
    fits-at request reply does = fits-last (core_entries old.0.seen) (core_entries new.0.seen) old.0.number request reply does.at (ap (λ (c : CoreState). c.history) does.leaves) goes.ready.fitting

    pub more-at : (request : Request) (reply : Reply) → IsAnswered (core_as_seen desk.fixed old.0) old.0.number request reply (core_as_seen desk.fixed new.0) → length (core_entries new.0.seen) ≡ length (core_entries old.0.seen) + 1
    more-at request reply does = ap (λ (c : CoreState). length c.history) does.leaves ∙ length-append (core_entries old.0.seen) _

    -- an end of the processor
    pub ended-at : (how : Outcome) (cursor given : ℤ) → given ≡ cursor → HasPutEnd old.0 how given new.0 → new.1.items ≡ old.1.items → (o : Opening Seat) (asked : List Answered) → IsOpenAt desk o asked old → HasEndedAt desk o asked how cursor new
    ended-at how cursor given as-given put kept o asked is = record {
      was = is.0.was;
      found = found-on o is.0.was is.0.found;
      at = put.0;
      ended = ended-on o.first.0.number is.0.was o.of o.cursor asked (core_as_seen desk.fixed old.0) is.0.on how cursor (core_entries new.0.seen) put.0
          (put.1 ∙ (λ i. core_entries old.0.seen ++ entry_of (is.0.found.goes.number i) (End how (as-given i) put.0) ∷ []));
      sets = kept ∙ is.1;
    }

    pub fits-any : (request : Request) (cursor : ℤ) (reply : Option Reply) → IsDecidedAt desk.fixed old.0 request cursor reply new.0 → IfSome reply (λ r. IsTrue (fits_request request r))
    fits-any request cursor (Some reply) does = fits-at request reply does
    fits-any request cursor None does = tt

    pub more-any : (request : Request) (cursor : ℤ) (reply : Option Reply) → IsDecidedAt desk.fixed old.0 request cursor reply new.0 → IsSome reply → length (core_entries new.0.seen) ≡ length (core_entries old.0.seen) + 1
    more-any request cursor (Some reply) does some = more-at request reply does
    more-any request cursor None does some = absurd (cc)
