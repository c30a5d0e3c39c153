-- That no output underflows without a reason.
use Rattle.std.proofs.Common.{◌≡◌, ◌+◌, ◌-◌, ◌*◌, ◌/◌, ◌<◌, ◌≤◌, ◌⊎◌, inl, inr, ℕ, false, List, [], ◌∷◌, ◌++◌, refl, ap, sym, subst, ◌∙◌, arith, append_assoc, append-nil}
use Rattle.std.specs.Prelude.{Some, None, is_some, max, min}
use Rattle.std.proofs.lemmas.Bool.{cases_lt}
use Rattle.std.proofs.lemmas.List.Sums.{fold-append}
use Rattle.rtio_types.specs.declared.event.Event.{Event}
use Rattle.rtio_types.specs.declared.request.Request.{Request}
use Rattle.rtio_types.specs.declared.request.Request.TheVariants as ask
use Rattle.rtio_types.specs.declared.request.Reply.{Reply}
use Rattle.rtio_types.specs.declared.request.Reply.TheVariants as answer
use Rattle.rtio_types.specs.Time.{cycle_of}
use Rattle.sed_lanes.specs.Verdict.{Verdict, Underflow, Lane, Sequence, Undecided}
use Rattle.sed_lanes.proofs.Freeing.{undecided-before}
use Rattle.sed_lanes.proofs.Reasons.{sequence-has-reason}
use Rattle.sed_lanes.proofs.RisingLanes.{no-underflow}
use Rattle.rtio_core.specs.declared.data.Act.{Act}
use Rattle.rtio_core.specs.declared.data.Act.TheVariants.{Start, Asked, End}
use Rattle.rtio_core.specs.declared.data.Config.{Config}
use Rattle.rtio_core.specs.declared.data.Entry.{Entry}
use Rattle.rtio_core.specs.Entries.{judged_history, lane_steps, last_at, limit, open_session}
use Rattle.rtio_core.specs.Reply.{is_decided, lanes_at, reply_to, reply_to_event, verdict_at}
use Rattle.rtio_core.specs.Top.{first_decided, top}
use Rattle.rtio_core.specs.Lawful.{IsLawfulAfter, IsOpenFor, MayFollow}
use Rattle.rtio_core.specs.Core.{CoreState, IsCore}
use Rattle.std.specs.Prelude.{Result, Ok, IfOk}
use Rattle.rtio_core.specs.declared.data.Ask.{Ask}
use Rattle.rtio_core.specs.declared.data.Ask.TheVariants as asked
use Rattle.rtio_core.specs.Calls.{AnswersAsk}
use Rattle.rtio_core.specs.Errors.{HasReason, HaveReasons, UnderflowHasReason}
use Rattle.rtio_core.proofs.Asked.{asked-bound}
use Rattle.rtio_core.proofs.Laws.{least_from-before}
use Rattle.rtio_core.proofs.Settings.{AreInRange, ranges-of}

pub from-front : (P : List Entry → Type 0) → ((front : List Entry) (entry : Entry) → P (front ++ entry ∷ [])) → (front rest : List Entry) → P front → P (front ++ rest)
from-front P last front [] h = subst P (sym (append-nil front)) h
from-front P last front (entry ∷ rest) h = subst P (append_assoc front (entry ∷ []) rest) (from-front P last (front ++ entry ∷ []) rest (last front entry))

-- what holds of the empty history, and by the last entry of any other, holds of each
by-last : (P : List Entry → Type 0) → P [] → ((front : List Entry) (entry : Entry) → P (front ++ entry ∷ [])) → (history : List Entry) → P history
by-last P none last history = from-front P last [] history none

-- in an open session the limit reaches the last entry
IsReached : ℕ → List Entry → Type 0
IsReached cost history = (running : ℕ × ℕ) → open_session history ≡ Some running → 8 * last_at history ≤ limit cost history

reached-by : (cost chair : ℕ) (front : List Entry) (act : Act) → IsReached cost (front ++ record { chair = chair; act = act } ∷ [])
unfolding IsReached
reached-by cost chair front (Start of cursor at) running is =
    let last : last_at (front ++ record { chair = chair; act = Start of cursor at } ∷ []) ≡ at = fold-append _ _ front (record { chair = chair; act = Start of cursor at } ∷ []) in
    let far : limit cost (front ++ record { chair = chair; act = Start of cursor at } ∷ []) ≡ 8 * at = fold-append _ _ front (record { chair = chair; act = Start of cursor at } ∷ []) in
    omega (arith, last, far)
reached-by cost chair front (Asked request reply at) running is =
    let last : last_at (front ++ record { chair = chair; act = Asked request reply at } ∷ []) ≡ at = fold-append _ _ front (record { chair = chair; act = Asked request reply at } ∷ []) in
    let far : limit cost (front ++ record { chair = chair; act = Asked request reply at } ∷ []) ≡ max (limit cost front) (8 * at) + cost = fold-append _ _ front (record { chair = chair; act = Asked request reply at } ∷ []) in
    omega (arith, last, far)
reached-by cost chair front (End outcome cursor at) running is =
    let closed : open_session (front ++ record { chair = chair; act = End outcome cursor at } ∷ []) ≡ None = fold-append _ _ front (record { chair = chair; act = End outcome cursor at } ∷ []) in
    absurd (cc)

limit-reaches : (cost : ℕ) (history : List Entry) → IsReached cost history
unfolding IsReached
limit-reaches cost history = by-last (IsReached cost) none (λ front entry. reached-by cost entry.chair front entry.act) history
  where
    none : IsReached cost []
    none running is = absurd (cc)

pub limit-at-last : (cost : ℕ) (history : List Entry) (running : ℕ × ℕ) → open_session history ≡ Some running → 8 * last_at history ≤ limit cost history
unfolding IsReached
limit-at-last cost history running is = limit-reaches cost history running is

undecided-verdict : (v : Verdict) → is_some (reply_to_event v) ≡ false → v ≡ Undecided
undecided-verdict Underflow h = absurd (cc)
undecided-verdict (Lane k) h = absurd (cc)
undecided-verdict Sequence h = absurd (cc)
undecided-verdict Undecided h = refl

late-verdict : (v : Verdict) → reply_to_event v ≡ Some answer.Underflow → v ≡ Underflow
late-verdict Underflow h = refl
late-verdict (Lane k) h = absurd (cc)
late-verdict Sequence h = absurd (cc)
late-verdict Undecided h = absurd (cc)

-- where nothing decides an output before the counter, it isn't late there
not-late : (config : Config) (history : List Entry) (e : Event) (counter : ℕ) → 1 ≤ config.lanes → 1 ≤ config.depth → last_at history < counter → counter ≤ first_decided config history (ask.Out e) → counter < cycle_of e
not-late config history e counter some deep after before =
    let m : ℕ = counter - 1 in
    let next : m + 1 ≡ counter = omega (arith, after) in
    let fails : is_decided config history (ask.Out e) m ≡ false =
    least_from-before (is_decided config history (ask.Out e)) (last_at history) (config.horizon - last_at history) m (omega (arith, after)) (omega (arith, after, before)) in
    let early = undecided-before config.lanes config.depth (lane_steps history) m e some deep (undecided-verdict (verdict_at config history e m) fails) in
    omega (arith, next, early)

-- the counter of an answer is within the limit, or no later than the first at which the request is decided
answered-bound : (config : Config) (history : List Entry) (e : Event) (counter : ℕ) (running : ℕ × ℕ) → open_session history ≡ Some running → counter ≤ top config history (Some (ask.Out e)) → (counter ≤ limit config.cost history / 8) ⊎ (counter ≤ first_decided config history (ask.Out e))
answered-bound config history e counter running is le =
    let reached : counter ≤ min config.horizon (max (limit config.cost history / 8) (first_decided config history (ask.Out e))) = rw is at le in
    by-order (cases_lt (limit config.cost history / 8) counter) reached
  where
    by-order : (limit config.cost history / 8 < counter) ⊎ (counter ≤ limit config.cost history / 8) → counter ≤ min config.horizon (max (limit config.cost history / 8) (first_decided config history (ask.Out e))) → (counter ≤ limit config.cost history / 8) ⊎ (counter ≤ first_decided config history (ask.Out e))
    by-order (inl lt) reached = inr (omega (arith, lt, reached))
    by-order (inr le) reached = inl le

-- an output later than the limit doesn't underflow
underflow-has-reason : (config : Config) (before : List Entry) (who at : ℕ) (e : Event) (reply : Reply) → AreInRange config → IsOpenFor who before → at ≤ top config before (Some (ask.Out e)) → reply_to config before (ask.Out e) at ≡ Some reply → UnderflowHasReason config before e reply
underflow-has-reason config before who at e reply ranges running bounded right = λ later is.
    let late : verdict_at config before e at ≡ Underflow = late-verdict (verdict_at config before e at) (right ∙ ap (λ (r : Reply). Some r) is) in
    let reached = limit-at-last config.cost before (who, running.0) running.1 in
    by-order (cases_lt at (cycle_of e)) (cases_lt (last_at before) at) (answered-bound config before e at (who, running.0) running.1 bounded) later late reached ranges.lanes_least ranges.depth_least
  where
    by-order : (at < cycle_of e) ⊎ (cycle_of e ≤ at) → (last_at before < at) ⊎ (at ≤ last_at before) → (at ≤ limit config.cost before / 8) ⊎ (at ≤ first_decided config before (ask.Out e)) → limit config.cost before / 8 < cycle_of e → verdict_at config before e at ≡ Underflow → 8 * last_at before ≤ limit config.cost before → 1 ≤ config.lanes → 1 ≤ config.depth → ⊥
    by-order (inl early) after bound later late reached some deep = no-underflow (lanes_at config before at) e at early late
    by-order (inr gone) after (inl within) later late reached some deep = omega (arith, gone, within, later)
    by-order (inr gone) (inl after) (inr first) later late reached some deep =
        let early : at < cycle_of e = not-late config before e at some deep after first in
        omega (arith, gone, early)
    by-order (inr gone) (inr back) (inr first) later late reached some deep = omega (arith, gone, back, later, reached)

entry-has-reason : (config : Config) (before : List Entry) (chair : ℕ) (act : Act) → AreInRange config → MayFollow config before chair act → HasReason config before act
entry-has-reason config before chair (Asked (ask.Out e) reply at) ranges may = (
  sequence-has-reason config.lanes config.depth (judged_history config before) at e,
  underflow-has-reason config before chair at e reply ranges may.0 may.3 may.1,
)
entry-has-reason config before chair act ranges may = tt

-- so of each output of a lawful history
pub have-reasons : (config : Config) (before rest : List Entry) → AreInRange config → IsLawfulAfter config before rest → HaveReasons config before rest
have-reasons config before [] ranges lawful = tt
have-reasons config before (entry ∷ rest) ranges lawful =
    (entry-has-reason config before entry.chair entry.act ranges lawful.0, have-reasons config (before ++ entry ∷ []) rest ranges lawful.1)

-- and of one that was answered
pub answered-with-reason : (s new : CoreState) (who : ℕ) (e : Event) (reply : Reply) (r : Result Ask Request) → IsCore s → IsOpenFor who s.history → IfOk r (λ a. AnswersAsk s who (ask.Out e) a new) → r ≡ Ok (asked.Reply reply) → UnderflowHasReason s.config s.history e reply
answered-with-reason s new who e reply r h running answers is =
    let told : AnswersAsk s who (ask.Out e) (asked.Reply reply) new = subst (λ (x : Result Ask Request). IfOk x (λ a. AnswersAsk s who (ask.Out e) a new)) is answers in
    underflow-has-reason s.config s.history who s.counter e reply (ranges-of s.config h.config) running
    (asked-bound s.config s.history s.waiting (ask.Out e) s.counter (who, running.0) running.1 told.0 h.bounded) told.1
