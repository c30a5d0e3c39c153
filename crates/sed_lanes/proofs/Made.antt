-- Lanes that took nothing yet.
use Rattle.std.proofs.Common.{◌≡◌, ◌≤◌, ℕ, List, [], map, replicate, zero, suc, length, refl, ap, ◌∙◌, sym, subst, arith}
use Rattle.std.specs.Prelude.{All, flat_map, nat_eq}
use Rattle.std.specs.List.{IsDistinct}
use Rattle.std.specs.Map.{keys_of}
use Rattle.std.proofs.lemmas.Bool.Decides.{Decides-eqb}
use Rattle.std.proofs.lemmas.List.{length-map, length-replicate}
use Rattle.std.proofs.lemmas.Map.Made.{IsDistinct-from_AllPairs}
use Rattle.rtio_types.specs.declared.event.Event.{Event}
use Rattle.sed_lanes.specs.Lanes.{LaneState, empty_lane, empty_lanes}
use Rattle.sed_lanes.specs.Rows.{AreLanes, IsLane, all_held, row_state}
use Rattle.sed_lanes.specs.declared.lane.Lane.{Lane}
use Rattle.sed_lanes.proofs.Accepting.{state_of}

none-held : (n : ℕ) → flat_map (λ (lane : LaneState). lane.held) (replicate n empty_lane) ≡ []
none-held zero = refl
none-held (suc n) = none-held n

pub none-distinct : IsDistinct nat_eq (keys_of {X = Event} [])
none-distinct = IsDistinct-from_AllPairs Decides-eqb [] (λ i j d i_lt j_lt. absurd (omega (arith, j_lt)))

-- so many empty lanes
pub empty-count : (n : ℕ) (lanes : List Lane) → map row_state lanes ≡ replicate n empty_lane → length lanes ≡ n
empty-count n lanes is =
    sym (length-map lanes row_state) ∙ ap (λ (ls : List LaneState). length ls) is ∙ length-replicate n empty_lane

-- empty lanes are lanes
pub empty-are : (n depth : ℕ) (lanes : List Lane) → 1 ≤ depth → depth ≤ 1024 → 1 ≤ n → n ≤ 32 → map row_state lanes ≡ replicate n empty_lane → All (IsLane depth) lanes → AreLanes depth 0 lanes
empty-are n depth lanes least most some few is each =
    let count : length lanes ≡ n = empty-count n lanes is in
    let held : all_held lanes ≡ [] = ap (λ (ls : List LaneState). flat_map (λ (lane : LaneState). lane.held) ls) is ∙ none-held n in
    record {
      depth_least = least;
      depth_most = most;
      current_there = omega (arith, count, some);
      lanes_most = omega (arith, count, few);
      each = each;
      own_numbers = subst (λ (ps : List (ℕ × Event)). IsDistinct nat_eq (keys_of ps)) (sym held) none-distinct;
    }

-- and are seen as such
pub empty-view : (n depth : ℕ) (lanes : List Lane) → map row_state lanes ≡ replicate n empty_lane → state_of depth 0 lanes ≡ empty_lanes n depth
empty-view n depth lanes is = ap (λ (ls : List LaneState). record { depth = depth; current = 0; lanes = ls }) is
