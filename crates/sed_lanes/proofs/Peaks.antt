-- How full the lanes were, with one step more.
use Rattle.std.proofs.Common.{◌≡◌, ◌≢◌, ◌<◌, ◌+◌, ℕ, false, List, [], ◌∷◌, ◌++◌, map, set, get_or, length, refl, ap, ◌∙◌, sym, arith, append-nil, append_assoc}
use Rattle.std.specs.Prelude.{max, ◌==◌}
use Rattle.std.specs.List.{range_with_len}
use Rattle.std.proofs.lemmas.Bool.{eq-eqb}
use Rattle.std.proofs.lemmas.Bool.Decides.{nat_tests}
use Rattle.rtio_types.specs.declared.event.Event.{Event}
use Rattle.sed_lanes.specs.Judged.{Judged, Submitted, Cleared, accepted_into, lane_of, lanes_after}
use Rattle.sed_lanes.specs.Lanes.{LaneState, empty_lane, lane_at}
use Rattle.sed_lanes.specs.Peaks.{held_after, peak_from, peaks_of}
use Rattle.sed_lanes.specs.Verdict.{Verdict, Underflow, Lane, Sequence, Undecided}
use Rattle.sed_lanes.proofs.Histories.{get_or-map-range, map-set_at}
use Rattle.sed_lanes.proofs.Unplaced.{IsUnplaced}

peak-more : (k : ℕ) (before rest : List Judged) (j : Judged) → peak_from k before (rest ++ j ∷ []) ≡ max (peak_from k before rest) (held_after k (before ++ rest) j)
peak-more k before [] j =
    let same : held_after k (before ++ []) j ≡ held_after k before j = ap (λ (b : List Judged). held_after k b j) (append-nil before) in
    omega (arith, same)
peak-more k before (i ∷ rest) j =
    let ih : peak_from k (before ++ i ∷ []) (rest ++ j ∷ []) ≡ max (peak_from k (before ++ i ∷ []) rest) (held_after k ((before ++ i ∷ []) ++ rest) j) = peak-more k (before ++ i ∷ []) rest j in
    let same : held_after k ((before ++ i ∷ []) ++ rest) j ≡ held_after k (before ++ i ∷ rest) j = ap (λ (b : List Judged). held_after k b j) (append_assoc before (i ∷ []) rest) in
    omega (arith, ih, same)

-- a peak is the greater of what it was and of what the lane holds just after the step
pub peak-push : (k : ℕ) (judged : List Judged) (j : Judged) → peak_from k [] (judged ++ j ∷ []) ≡ max (peak_from k [] judged) (held_after k judged j)
peak-push k judged j = peak-more k [] judged j

none-taken : (k : ℕ) (judged : List Judged) (number at : ℕ) (e : Event) (v : Verdict) → IsUnplaced v → held_after k judged (Submitted number at e v) ≡ 0
none-taken k judged number at e Underflow un = refl
none-taken k judged number at e (Lane j) un = absurd un
none-taken k judged number at e Sequence un = refl
none-taken k judged number at e Undecided un = refl

peaks-same : (lanes : ℕ) (judged : List Judged) (j : Judged) → ((k : ℕ) → held_after k judged j ≡ 0) → peaks_of lanes (judged ++ j ∷ []) ≡ peaks_of lanes judged
peaks-same lanes judged j none = each (range_with_len 0 lanes)
  where
    each : (ks : List ℕ) → map (λ k. peak_from k [] (judged ++ j ∷ [])) ks ≡ map (λ k. peak_from k [] judged) ks
    each [] = refl
    each (k ∷ ks) =
        let more = peak-push k judged j in
        let zero_more = none k in
        let here : peak_from k [] (judged ++ j ∷ []) ≡ peak_from k [] judged = omega (arith, more, zero_more) in
        ap (λ (n : ℕ). n ∷ map (λ i. peak_from i [] (judged ++ j ∷ [])) ks) here ∙ ap (λ (ns : List ℕ). peak_from k [] judged ∷ ns) (each ks)

-- an event that no lane took changes no peak
pub peaks-unplaced : (lanes : ℕ) (judged : List Judged) (number at : ℕ) (e : Event) (v : Verdict) → IsUnplaced v → peaks_of lanes (judged ++ Submitted number at e v ∷ []) ≡ peaks_of lanes judged
peaks-unplaced lanes judged number at e v un = peaks-same lanes judged (Submitted number at e v) (λ k. none-taken k judged number at e v un)

-- nor does a clearing
pub peaks-cleared : (lanes : ℕ) (judged : List Judged) (at : ℕ) → peaks_of lanes (judged ++ Cleared at ∷ []) ≡ peaks_of lanes judged
peaks-cleared lanes judged at = peaks-same lanes judged (Cleared at) (λ k. refl)

-- an accepted event changes the peak of its lane alone, to the greater of it and of what the lane holds just after
pub peaks-accepted : (lanes depth : ℕ) (judged : List Judged) (number at : ℕ) (e : Event) (k : ℕ) → k < lanes → peaks_of lanes (judged ++ Submitted number at e (Lane k) ∷ []) ≡ set (peaks_of lanes judged) k (max (get_or (peaks_of lanes judged) k 0) (length (lane_at (lanes_after lanes depth (judged ++ Submitted number at e (Lane k) ∷ []) at) k).held))
peaks-accepted lanes depth judged number at e k lt =
    let j : Judged = Submitted number at e (Lane k) in
    let f : ℕ → ℕ = λ i. peak_from i [] judged in
    let g : ℕ → ℕ = λ i. peak_from i [] (judged ++ j ∷ []) in
    let place : k ≡ 0 + k = omega arith in
    let rest : map g (range_with_len 0 lanes) ≡ set (map f (range_with_len 0 lanes)) k (g k) = map-set_at f g 0 lanes k k place lt (λ i differ. other i differ) in
    let old : get_or (map f (range_with_len 0 lanes)) k 0 ≡ f k = get_or-map-range f 0 lanes k 0 lt ∙ ap f (sym place) in
    let lane : lane_at (lanes_after lanes depth (judged ++ j ∷ []) at) k ≡ lane_of at (accepted_into k (judged ++ j ∷ [])) =
    get_or-map-range (λ i. lane_of at (accepted_into i (judged ++ j ∷ []))) 0 lanes k empty_lane lt ∙ ap (λ (i : ℕ). lane_of at (accepted_into i (judged ++ j ∷ []))) (sym place) in
    let held : held_after k judged j ≡ length (lane_at (lanes_after lanes depth (judged ++ j ∷ []) at) k).held =
    rw (eq-eqb k k refl) (ap (λ (l : LaneState). length l.held) (sym lane)) in
    rest ∙ ap (set (map f (range_with_len 0 lanes)) k)
    (peak-push k judged j ∙ ap (λ (n : ℕ). max n (held_after k judged j)) (sym old)
    ∙ ap (max (get_or (map f (range_with_len 0 lanes)) k 0)) held)
  where
    other : (i : ℕ) → k ≢ i → peak_from i [] (judged ++ Submitted number at e (Lane k) ∷ []) ≡ peak_from i [] judged
    other i differ =
        let no : (k == i) ≡ false = grind (arith, nat_tests, differ) in
        let none : held_after i judged (Submitted number at e (Lane k)) ≡ 0 = rw no refl in
        let more = peak-push i judged (Submitted number at e (Lane k)) in
        omega (arith, none, more)
