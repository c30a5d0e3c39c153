-- Histories that grow by one step after another.
use Rattle.std.proofs.Common.{◌≤◌, ℕ, List, [], ◌∷◌, ◌++◌, sym, subst, arith, append_assoc, append-nil}
use Rattle.rtio_types.specs.declared.event.Event.{Event}
use Rattle.sed_lanes.specs.Judged.{Judged, LaneStep, Submit, Clear, Submitted, Cleared, judged, lanes_after, next_number}
use Rattle.sed_lanes.specs.Verdict.{verdict}
use Rattle.sed_lanes.specs.Counters.{NeverFall, lane_step_at}
use Rattle.sed_lanes.proofs.Histories.{judged-submit, judged-clear}

from-front : (P : List LaneStep → Type 0) → ((front : List LaneStep) (step : LaneStep) → P front → P (front ++ step ∷ [])) → (front rest : List LaneStep) → P front → P (front ++ rest)
from-front P more front [] h = subst P (sym (append-nil front)) h
from-front P more front (step ∷ rest) h =
    subst P (append_assoc front (step ∷ []) rest) (from-front P more (front ++ step ∷ []) rest (more front step h))

-- what holds of no step, and of one step more, holds of all lists of steps
pub each-step : (P : List LaneStep → Type 0) → P [] → ((front : List LaneStep) (step : LaneStep) → P front → P (front ++ step ∷ [])) → (steps : List LaneStep) → P steps
each-step P none more steps = from-front P more [] steps none

-- what holds of the empty history, and of a history with an event or a clearing more, holds of each history
pub each-judged : (lanes depth : ℕ) (P : List Judged → Type 0) → P [] → ((old : List Judged) (at : ℕ) (e : Event) → P old → P (old ++ Submitted (next_number old) at e (verdict (lanes_after lanes depth old at) e at) ∷ [])) → ((old : List Judged) (at : ℕ) → P old → P (old ++ Cleared at ∷ [])) → (steps : List LaneStep) → P (judged lanes depth steps)
each-judged lanes depth P none submitted cleared steps = each-step (λ s. P (judged lanes depth s)) none more steps
  where
    more : (front : List LaneStep) (step : LaneStep) → P (judged lanes depth front) → P (judged lanes depth (front ++ step ∷ []))
    more front (Submit at e) h = subst P (sym (judged-submit lanes depth front at e)) (submitted (judged lanes depth front) at e h)
    more front (Clear at) h = subst P (sym (judged-clear lanes depth front at)) (cleared (judged lanes depth front) at h)

-- a step at a later counter goes on
pub never-fall-push : (from : ℕ) (steps : List LaneStep) (step : LaneStep) (to : ℕ) → NeverFall from steps (lane_step_at step) → lane_step_at step ≤ to → NeverFall from (steps ++ step ∷ []) to
never-fall-push from [] step to h le = (h, le)
never-fall-push from (s ∷ rest) step to h le = (h.0, never-fall-push (lane_step_at s) rest step to h.1 le)

-- so do all steps but the last
pub never-fall-front : (from : ℕ) (steps : List LaneStep) (step : LaneStep) (to : ℕ) → NeverFall from (steps ++ step ∷ []) to → NeverFall from steps (lane_step_at step) × (lane_step_at step ≤ to)
never-fall-front from [] step to h = h
never-fall-front from (s ∷ rest) step to h = let ih = never-fall-front (lane_step_at s) rest step to h.1 in ((h.0, ih.0), ih.1)

-- the last counter may be a later one
pub never-fall-later : (from : ℕ) (steps : List LaneStep) (to later : ℕ) → NeverFall from steps to → to ≤ later → NeverFall from steps later
never-fall-later from [] to later h le = omega (arith, h, le)
never-fall-later from (s ∷ rest) to later h le = (h.0, never-fall-later (lane_step_at s) rest to later h.1 le)
