-- The accepted events since the last clearing, when the history grows.
use Rattle.std.proofs.Common.{◌≡◌, ◌<◌, ◌≤◌, ℕ, List, [], ◌∷◌, ◌++◌, length, refl, ap, ◌∙◌, sym, subst, arith, append-nil}
use Rattle.std.specs.List.{range_with_len}
use Rattle.std.proofs.lemmas.List.{length-map}
use Rattle.std.proofs.lemmas.List.FromFn.{length-range_with_len}
use Rattle.std.proofs.lemmas.List.Elements.{filter_map-append}
use Rattle.rtio_types.specs.declared.event.Event.{Event}
use Rattle.sed_lanes.specs.Lanes.{LanesState}
use Rattle.sed_lanes.specs.Verdict.{Verdict, Underflow, Lane, Sequence, Undecided, verdict}
use Rattle.sed_lanes.specs.Judged.{Judged, LaneStep, Submitted, Cleared, accepted_into, current_lane, judged, lane_of, lanes_after, next_number, since_clearing}
use Rattle.sed_lanes.specs.Accepted.{accepted_since_clearing}
use Rattle.sed_lanes.proofs.Accepting.{next-seen}
use Rattle.sed_lanes.proofs.Growing.{each-judged}
use Rattle.sed_lanes.proofs.Histories.{current_lane-taken, since_clearing-submitted, since_clearing-cleared}
use Rattle.sed_lanes.proofs.Standing.{IsLaneBelow, verdict-below}
use Rattle.sed_lanes.proofs.Unplaced.{IsUnplaced, lanes_after-unplaced}

pub accepted-since-taken : (judged : List Judged) (number at : ℕ) (e : Event) (k : ℕ) → accepted_since_clearing (judged ++ Submitted number at e (Lane k) ∷ []) ≡ accepted_since_clearing judged ++ (number, e) ∷ []
accepted-since-taken judged number at e k = rw (since_clearing-submitted judged number at e (Lane k), filter_map-append) refl

pub accepted-since-unplaced : (judged : List Judged) (number at : ℕ) (e : Event) (v : Verdict) → IsUnplaced v → accepted_since_clearing (judged ++ Submitted number at e v ∷ []) ≡ accepted_since_clearing judged
accepted-since-unplaced judged number at e Underflow un = rw (since_clearing-submitted judged number at e Underflow, filter_map-append) (append-nil _)
accepted-since-unplaced judged number at e (Lane k) un = absurd un
accepted-since-unplaced judged number at e Sequence un = rw (since_clearing-submitted judged number at e Sequence, filter_map-append) (append-nil _)
accepted-since-unplaced judged number at e Undecided un = rw (since_clearing-submitted judged number at e Undecided, filter_map-append) (append-nil _)

pub accepted-since-cleared : (judged : List Judged) (at : ℕ) → accepted_since_clearing (judged ++ Cleared at ∷ []) ≡ []
accepted-since-cleared judged at = rw (since_clearing-cleared judged at) refl

-- each lane that took an event is one of the lanes
abbrev pub AreBelow : ℕ → List Judged → Type 0
AreBelow lanes [] = Unit {0}
AreBelow lanes (Submitted number at e v ∷ rest) = IsLaneBelow lanes v × AreBelow lanes rest
AreBelow lanes (Cleared at ∷ rest) = AreBelow lanes rest

below-push : (lanes : ℕ) (judged : List Judged) (number at : ℕ) (e : Event) (v : Verdict) → AreBelow lanes judged → IsLaneBelow lanes v → AreBelow lanes (judged ++ Submitted number at e v ∷ [])
below-push lanes [] number at e v h below = (below, tt)
below-push lanes (Submitted m at' e' v' ∷ rest) number at e v h below = (h.0, below-push lanes rest number at e v h.1 below)
below-push lanes (Cleared at' ∷ rest) number at e v h below = below-push lanes rest number at e v h below

-- as many lanes as there are
pub length-lanes_after : (lanes depth : ℕ) (judged : List Judged) (counter : ℕ) → length (lanes_after lanes depth judged counter).lanes ≡ lanes
length-lanes_after lanes depth judged counter =
    length-map (range_with_len 0 lanes) (λ k. lane_of counter (accepted_into k judged)) ∙ length-range_with_len 0 lanes

-- the lanes that took events since the last clearing are among the lanes, and so is the current one
pub record AreAmong (lanes : ℕ) (judged : List Judged) : Type 0 where
  pub taken : AreBelow lanes (since_clearing judged)
  pub current : current_lane judged < lanes

pub among-submitted : (lanes : ℕ) (judged : List Judged) (number at : ℕ) (e : Event) (v : Verdict) → AreAmong lanes judged → IsLaneBelow lanes v → AreAmong lanes (judged ++ Submitted number at e v ∷ [])
among-submitted lanes judged number at e v h below = record {
  taken = subst (AreBelow lanes) (sym (since_clearing-submitted judged number at e v)) (below-push lanes (since_clearing judged) number at e v h.taken below);
  current = moved v below;
}
  where
    same : (w : Verdict) → IsUnplaced w → current_lane (judged ++ Submitted number at e w ∷ []) < lanes
    same w un = subst (λ (n : ℕ). n < lanes) (sym (ap (λ (s : LanesState). s.current) (lanes_after-unplaced 0 0 judged number at 0 e w un))) h.current

    moved : (w : Verdict) → IsLaneBelow lanes w → current_lane (judged ++ Submitted number at e w ∷ []) < lanes
    moved Underflow there = same Underflow tt
    moved (Lane k) there = subst (λ (n : ℕ). n < lanes) (sym (current_lane-taken judged k number at e)) there
    moved Sequence there = same Sequence tt
    moved Undecided there = same Undecided tt

-- the verdict of a history is a lane among the lanes
pub verdict-among : (lanes depth : ℕ) (judged : List Judged) (at : ℕ) (e : Event) → AreAmong lanes judged → IsLaneBelow lanes (verdict (lanes_after lanes depth judged at) e at)
verdict-among lanes depth judged at e h =
    let s : LanesState = lanes_after lanes depth judged at in
    let long : length s.lanes ≡ lanes = length-lanes_after lanes depth judged at in
    let current : s.current < length s.lanes = subst (λ (n : ℕ). current_lane judged < n) (sym long) h.current in
    subst (λ (n : ℕ). IsLaneBelow n (verdict s e at)) long (verdict-below s e at current (next-seen s current))

pub among : (lanes depth : ℕ) (steps : List LaneStep) → 1 ≤ lanes → AreAmong lanes (judged lanes depth steps)
among lanes depth steps some =
    each-judged lanes depth (AreAmong lanes) (record { taken = tt; current = omega (arith, some) })
    (λ old at e h. among-submitted lanes old (next_number old) at e (verdict (lanes_after lanes depth old at) e at) h (verdict-among lanes depth old at e h))
    (λ old at h. record {
      taken = subst (AreBelow lanes) (sym (since_clearing-cleared old at)) tt;
      current = rw (since_clearing-cleared old at) (omega (arith, some));
    }) steps
