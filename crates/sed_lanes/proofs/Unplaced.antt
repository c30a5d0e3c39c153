-- An event that no lane takes changes nothing, and a clearing empties the lanes.
use Rattle.std.proofs.Common.{◌≡◌, ℕ, zero, suc, ◌+◌, List, [], ◌∷◌, ◌++◌, map, replicate, refl, ap, ◌∙◌, append-nil}
use Rattle.std.proofs.lemmas.List.Sums.{fold-append}
use Rattle.std.proofs.lemmas.List.Elements.{filter_map-append}
use Rattle.std.specs.List.{range_with_len}
use Rattle.rtio_types.specs.declared.event.Event.{Event}
use Rattle.sed_lanes.specs.Lanes.{LaneState, empty_lane, empty_lanes}
use Rattle.sed_lanes.specs.Verdict.{Verdict, Underflow, Lane, Sequence, Undecided}
use Rattle.sed_lanes.specs.Judged.{Judged, Submitted, accepted_into, current_lane, lane_of, lanes_after, since_clearing}
use Rattle.sed_lanes.proofs.Histories.{since_clearing-submitted}

-- no lane took the event
abbrev pub IsUnplaced : Verdict → Type 0
IsUnplaced (Lane k) = ⊥
IsUnplaced v = Unit {0}

pub accepted-unplaced : (judged : List Judged) (j number at : ℕ) (e : Event) (v : Verdict) → IsUnplaced v → accepted_into j (judged ++ Submitted number at e v ∷ []) ≡ accepted_into j judged
accepted-unplaced judged j number at e Underflow un = rw (since_clearing-submitted judged number at e Underflow, filter_map-append) (append-nil _)
accepted-unplaced judged j number at e (Lane k) un = absurd un
accepted-unplaced judged j number at e Sequence un = rw (since_clearing-submitted judged number at e Sequence, filter_map-append) (append-nil _)
accepted-unplaced judged j number at e Undecided un = rw (since_clearing-submitted judged number at e Undecided, filter_map-append) (append-nil _)

current-unplaced : (judged : List Judged) (number at : ℕ) (e : Event) (v : Verdict) → IsUnplaced v → current_lane (judged ++ Submitted number at e v ∷ []) ≡ current_lane judged
current-unplaced judged number at e Underflow un = rw (since_clearing-submitted judged number at e Underflow) (fold-append _ _ (since_clearing judged) (Submitted number at e Underflow ∷ []))
current-unplaced judged number at e (Lane k) un = absurd un
current-unplaced judged number at e Sequence un = rw (since_clearing-submitted judged number at e Sequence) (fold-append _ _ (since_clearing judged) (Submitted number at e Sequence ∷ []))
current-unplaced judged number at e Undecided un = rw (since_clearing-submitted judged number at e Undecided) (fold-append _ _ (since_clearing judged) (Submitted number at e Undecided ∷ []))

same-map : {X : Type 0} (f g : ℕ → X) (ks : List ℕ) → ((k : ℕ) → f k ≡ g k) → map f ks ≡ map g ks
same-map f g [] same = refl
same-map f g (k ∷ ks) same = ap (λ x. x ∷ map f ks) (same k) ∙ ap (λ xs. g k ∷ xs) (same-map f g ks same)

-- the lanes are as they were
pub lanes_after-unplaced : (lanes depth : ℕ) (judged : List Judged) (number at counter : ℕ) (e : Event) (v : Verdict) → IsUnplaced v → lanes_after lanes depth (judged ++ Submitted number at e v ∷ []) counter ≡ lanes_after lanes depth judged counter
lanes_after-unplaced lanes depth judged number at counter e v un =
    let same : map (λ k. lane_of counter (accepted_into k (judged ++ Submitted number at e v ∷ []))) (range_with_len 0 lanes) ≡ map (λ k. lane_of counter (accepted_into k judged)) (range_with_len 0 lanes) =
    same-map _ _ (range_with_len 0 lanes) (λ k. ap (lane_of counter) (accepted-unplaced judged k number at e v un)) in
    ap (λ (c : ℕ). record { depth = depth; current = c; lanes = map (λ k. lane_of counter (accepted_into k (judged ++ Submitted number at e v ∷ []))) (range_with_len 0 lanes) }) (current-unplaced judged number at e v un)
    ∙ ap (λ (ls : List LaneState). record { depth = depth; current = current_lane judged; lanes = ls }) same

map-empty : (a n : ℕ) (f : ℕ → LaneState) → ((k : ℕ) → f k ≡ empty_lane) → map f (range_with_len a n) ≡ replicate n empty_lane
map-empty a zero f empty = refl
map-empty a (suc n) f empty = ap (λ x. x ∷ map f (range_with_len (a + 1) n)) (empty a) ∙ ap (λ xs. empty_lane ∷ xs) (map-empty (a + 1) n f empty)

-- with nothing since the last clearing the lanes are empty
pub lanes_after-nothing : (lanes depth : ℕ) (judged : List Judged) (counter : ℕ) → since_clearing judged ≡ [] → lanes_after lanes depth judged counter ≡ empty_lanes lanes depth
lanes_after-nothing lanes depth judged counter none =
    let lane : (k : ℕ) → lane_of counter (accepted_into k judged) ≡ empty_lane = λ k. rw none refl in
    let current : current_lane judged ≡ 0 = rw none refl in
    ap (λ (c : ℕ). record { depth = depth; current = c; lanes = map (λ k. lane_of counter (accepted_into k judged)) (range_with_len 0 lanes) }) current
    ∙ ap (λ (ls : List LaneState). record { depth = depth; current = 0; lanes = ls }) (map-empty 0 lanes (λ k. lane_of counter (accepted_into k judged)) lane)
