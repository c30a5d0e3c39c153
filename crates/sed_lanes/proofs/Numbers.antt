-- The numbers of the submitted events.
use Rattle.std.proofs.Common.{◌≡◌, ◌+◌, ℕ, Bool, true, false, List, [], ◌∷◌, ◌++◌, refl, ap, ◌∙◌, sym, arith}
use Rattle.std.specs.Prelude.{count_by}
use Rattle.std.proofs.lemmas.List.Sums.{sum_by_push, sum_by-cons}
use Rattle.rtio_types.specs.declared.event.Event.{Event}
use Rattle.sed_lanes.specs.Verdict.{Verdict, verdict}
use Rattle.sed_lanes.specs.Judged.{Judged, LaneStep, Submit, Clear, Submitted, Cleared, judged, lanes_after, next_number}
use Rattle.sed_lanes.proofs.Histories.{judged-submit, judged-clear}
use Rattle.sed_lanes.proofs.Growing.{each-judged, each-step}

-- a submitted event takes the next number
pub next-number-submitted : (judged : List Judged) (number at : ℕ) (e : Event) (v : Verdict) → next_number (judged ++ Submitted number at e v ∷ []) ≡ next_number judged + 1
next-number-submitted judged number at e v = sum_by_push _ judged (Submitted number at e v)

-- a clearing takes none
pub next-number-cleared : (judged : List Judged) (at : ℕ) → next_number (judged ++ Cleared at ∷ []) ≡ next_number judged
next-number-cleared judged at = sum_by_push _ judged (Cleared at) ∙ omega arith

abbrev pub is_submit : LaneStep → Bool
is_submit (Submit at e) = true
is_submit (Clear at) = false

-- the next number is how many events were submitted
pub next-number-counts : (lanes depth : ℕ) (steps : List LaneStep) → next_number (judged lanes depth steps) ≡ count_by is_submit steps
next-number-counts lanes depth steps = each-step (λ s. next_number (judged lanes depth s) ≡ count_by is_submit s) refl more steps
  where
    more : (front : List LaneStep) (step : LaneStep) → next_number (judged lanes depth front) ≡ count_by is_submit front → next_number (judged lanes depth (front ++ step ∷ [])) ≡ count_by is_submit (front ++ step ∷ [])
    more front (Submit at e) h =
        ap next_number (judged-submit lanes depth front at e)
        ∙ next-number-submitted (judged lanes depth front) _ at e _ ∙ ap (λ (n : ℕ). n + 1) h ∙ sym (sum_by_push _ front (Submit at e))
    more front (Clear at) h =
        ap next_number (judged-clear lanes depth front at)
        ∙ next-number-cleared (judged lanes depth front) at ∙ h ∙ sym (sum_by_push _ front (Clear at) ∙ omega arith)

-- each submitted event has the count of those before it as its number, from a first number on
abbrev pub AreNumbered : ℕ → List Judged → Type 0
AreNumbered first [] = Unit {0}
AreNumbered first (Submitted number at e v ∷ rest) = (number ≡ first) × AreNumbered (first + 1) rest
AreNumbered first (Cleared at ∷ rest) = AreNumbered first rest

numbered-submitted : (first : ℕ) (old : List Judged) (number at : ℕ) (e : Event) (v : Verdict) → AreNumbered first old → number ≡ first + next_number old → AreNumbered first (old ++ Submitted number at e v ∷ [])
numbered-submitted first [] number at e v h is = (is ∙ omega arith, tt)
numbered-submitted first (Submitted m at' e' v' ∷ rest) number at e v h is =
    let more : next_number (Submitted m at' e' v' ∷ rest) ≡ 1 + next_number rest = sum_by-cons _ (Submitted m at' e' v') rest in
    let next : number ≡ (first + 1) + next_number rest = omega (arith, is, more) in
    (h.0, numbered-submitted (first + 1) rest number at e v h.1 next)
numbered-submitted first (Cleared at' ∷ rest) number at e v h is =
    let more : next_number (Cleared at' ∷ rest) ≡ 0 + next_number rest = sum_by-cons _ (Cleared at') rest in
    let next : number ≡ first + next_number rest = omega (arith, is, more) in
    numbered-submitted first rest number at e v h next

numbered-cleared : (first : ℕ) (old : List Judged) (at : ℕ) → AreNumbered first old → AreNumbered first (old ++ Cleared at ∷ [])
numbered-cleared first [] at h = tt
numbered-cleared first (Submitted m at' e' v' ∷ rest) at h = (h.0, numbered-cleared (first + 1) rest at h.1)
numbered-cleared first (Cleared at' ∷ rest) at h = numbered-cleared first rest at h

-- the events of a history are numbered from 0 on
pub numbered : (lanes depth : ℕ) (steps : List LaneStep) → AreNumbered 0 (judged lanes depth steps)
numbered lanes depth steps =
    each-judged lanes depth (AreNumbered 0) tt
    (λ old at e h. numbered-submitted 0 old (next_number old) at e (verdict (lanes_after lanes depth old at) e at) h (omega arith))
    (λ old at h. numbered-cleared 0 old at h) steps
