-- Replies that fit their requests, and what a run plays of a recording among them.
use Rattle.std.proofs.Common.{◌≡◌, ℕ, suc, zero, ◌+◌, inl, inr, List, [], ◌∷◌, ◌++◌, length, Bool, true, Some, refl, ap, subst, arith}
use Rattle.std.specs.Prelude.{fold, slice_get, is_some}
use Rattle.std.proofs.lemmas.Bool.{false≢true}
use Rattle.rtio_types.specs.declared.event.Event.{Event}
use Rattle.rtio_types.specs.declared.request.Request.{Request}
use Rattle.rtio_types.specs.declared.request.Request.TheVariants as ask
use Rattle.rtio_types.specs.declared.request.Reply.{Reply}
use Rattle.rtio_types.specs.declared.request.Reply.TheVariants as answer
use Rattle.rtio_types.specs.Recordings.{Recorded}
use Rattle.rtio_types.specs.Replies.{raised_by}
use Rattle.rtio_types.specs.Requests.{fits_request}
use Rattle.core_isa.specs.Machine.{MachineEnd}
use Rattle.core_isa.specs.WellAsked.{RepliesFit}
use Rattle.core_cpu.specs.Moments.{outcome_of}
use Rattle.core_session.specs.Scripts.{HaveNumbers}
use Rattle.kernel_session.specs.Replays.{ArePlayed, is_for_recording}
use Rattle.kernel_session.proofs.Replayed.{Replayed}

-- ---- the first of some replies

get_in_front : {A : Type 0} (a b : List A) (k : ℕ) (x : A) → slice_get a k ≡ Some x → slice_get (a ++ b) k ≡ Some x
get_in_front [] b k x there = absurd (false≢true (ap is_some there))
get_in_front (y ∷ a) b zero x there = there
get_in_front (y ∷ a) b (suc k) x there = get_in_front a b k x there

pub numbers_in_front : (a b : List Reply) → HaveNumbers (a ++ b) → HaveNumbers a
numbers_in_front [] b have = tt
numbers_in_front (r ∷ a) b have = (have.0, numbers_in_front a b have.1)

pub fit_in_front : (qs own : List Request) (front rest : List Reply) → RepliesFit (qs ++ own) (front ++ rest) → RepliesFit qs front
fit_in_front qs own front rest fit k request reply asked given =
    fit k request reply (get_in_front qs own k request asked) (get_in_front front rest k reply given)

-- ---- the others

-- a request that a recording fits asks for one
asks_for_it : (request : Request) (recording : Recorded) → fits_request request (answer.Trace recording) ≡ true → is_for_recording request ≡ true
asks_for_it (ask.Fetch name) recording fits = refl
asks_for_it (ask.FetchHandle handle) recording fits = refl
asks_for_it request recording fits = absurd (false≢true fits)

fit_behind_one : (q : Request) (qs : List Request) (r : Reply) (rs : List Reply) → RepliesFit (q ∷ qs) (r ∷ rs) → RepliesFit qs rs
fit_behind_one q qs r rs fit k request reply asked given = fit (suc k) request reply asked given

-- behind as many requests as there were replies, the others fit
pub fit_behind : (qs own : List Request) (front : List Reply) (r : Reply) (rest : List Reply) → length qs ≡ length front + 1 → RepliesFit (qs ++ own) (front ++ r ∷ rest) → RepliesFit own rest
fit_behind [] own front r rest long fit = absurd (omega (arith, long))
fit_behind (q ∷ []) own [] r rest long fit = fit_behind_one q own r rest fit
fit_behind (q ∷ q' ∷ qs) own [] r rest long fit = absurd (omega (arith, long))
fit_behind (q ∷ qs) own (f ∷ front) r rest long fit = fit_behind qs own front r rest (omega (arith, long)) (fit_behind_one q (qs ++ own) f (front ++ r ∷ rest) fit)

-- and the last of them asked for the recording that it got
pub ends_there : (b : Bool) (qs own : List Request) (front : List Reply) (recording : Recorded) (rest : List Reply) → length qs ≡ length front + 1 → RepliesFit (qs ++ own) (front ++ answer.Trace recording ∷ rest) → fold (λ _ q. is_for_recording q) b qs ≡ true
ends_there b [] own front recording rest long fit = absurd (omega (arith, long))
ends_there b (q ∷ []) own [] recording rest long fit = asks_for_it q recording (fit 0 q (answer.Trace recording) refl refl)
ends_there b (q ∷ q' ∷ qs) own [] recording rest long fit = absurd (omega (arith, long))
ends_there b (q ∷ qs) own (f ∷ front) recording rest long fit =
    ends_there (is_for_recording q) qs own front recording rest (omega (arith, long)) (fit_behind_one q (qs ++ own) f (front ++ answer.Trace recording ∷ rest) fit)

-- ---- what is played

-- a reply to an output that raises is an underflow
underflows : (e : Event) (reply : Reply) → fits_request (ask.Out e) reply ≡ true → is_some (raised_by reply) ≡ true → reply ≡ answer.Underflow
underflows e answer.Underflow fits raises = refl
underflows e answer.Done fits raises = absurd (false≢true raises)
underflows e reply fits raises = absurd (false≢true fits)

-- what a run plays, in terms of its outcome
pub are_played : (events : List Event) (replies : List Reply) (own : List Request) (end : MachineEnd) → RepliesFit own replies → Replayed events replies own end → ArePlayed events replies own (outcome_of end)
are_played [] replies own end fit played = tt
are_played (e ∷ events) replies [] end fit played = ap outcome_of played
are_played (e ∷ events) [] (q ∷ own) end fit played = (played.0, played.1, ap outcome_of played.2)
are_played (e ∷ events) (r ∷ replies) (q ∷ own) end fit (is, inl raises) =
    (is, inl (underflows e r (subst (λ (x : Request). fits_request x r ≡ true) is (fit 0 q r refl refl)) raises))
are_played (e ∷ events) (r ∷ replies) (q ∷ own) end fit (is, inr played) =
    (is, inr (are_played events replies own end (fit_behind_one q own r replies fit) played))
