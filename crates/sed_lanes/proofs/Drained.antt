-- The lanes when the counter has risen by one cycle.
use Rattle.std.proofs.Common.{◌≡◌, ℕ, ◌+◌, List, [], ◌∷◌, map, refl, ap, ◌∙◌, arith}
use Rattle.std.specs.Prelude.{filter, nat_lt, not, ◌==◌}
use Rattle.std.specs.List.{range_with_len}
use Rattle.std.proofs.lemmas.Bool.Decides.{nat_tests}
use Rattle.rtio_types.specs.declared.event.Event.{Event}
use Rattle.rtio_types.specs.Time.{cycle_of}
use Rattle.sed_lanes.specs.Lanes.{LaneState}
use Rattle.sed_lanes.specs.Judged.{Judged, accepted_into, lane_of, lanes_after, current_lane, last_cycle}
use Rattle.sed_lanes.specs.Calls.{without}

-- those after the next cycle are those after this one, without the next
held-next : (counter : ℕ) (events : List (ℕ × Event)) → filter (λ p. not (cycle_of p.1 == counter + 1)) (filter (λ p. nat_lt counter (cycle_of p.1)) events) ≡ filter (λ p. nat_lt (counter + 1) (cycle_of p.1)) events
held-next counter [] = refl
held-next counter (p ∷ events) = let ih = held-next counter events in grind (arith, nat_tests, ih)

map-map : {X Y : Type 0} (h : Y → Y) (f g : X → Y) (xs : List X) → ((x : X) → h (f x) ≡ g x) → map h (map f xs) ≡ map g xs
map-map h f g [] same = refl
map-map h f g (x ∷ xs) same = ap (λ y. y ∷ map h (map f xs)) (same x) ∙ ap (λ ys. g x ∷ ys) (map-map h f g xs same)

-- the events of that cycle are gone, and nothing else
pub lanes_after-next : (lanes depth : ℕ) (judged : List Judged) (counter : ℕ) → without (counter + 1) (lanes_after lanes depth judged counter) ≡ lanes_after lanes depth judged (counter + 1)
lanes_after-next lanes depth judged counter =
    ap (λ (ls : List LaneState). record { depth = depth; current = current_lane judged; lanes = ls })
    (map-map (λ (lane : LaneState). record lane { held = filter (λ p. not (cycle_of p.1 == counter + 1)) lane.held })
    (λ k. lane_of counter (accepted_into k judged)) (λ k. lane_of (counter + 1) (accepted_into k judged)) (range_with_len 0 lanes)
    (λ k. ap (λ (events : List (ℕ × Event)). record { held = events; last = last_cycle (accepted_into k judged) }) (held-next counter (accepted_into k judged))))
