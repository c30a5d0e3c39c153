-- How many events the lanes hold.
use Rattle.std.proofs.Common.{◌≡◌, ◌+◌, ◌<◌, ◌≤◌, ℕ, List, [], ◌∷◌, get_or, length, map, take, refl, ap, sym, subst, ◌∙◌, arith, length-append}
use Rattle.std.specs.Prelude.{flat_map, sum_by}
use Rattle.std.proofs.lemmas.List.Elements.{All-get_or}
use Rattle.std.proofs.lemmas.List.Sums.{sum_by-cons}
use Rattle.std.proofs.lemmas.List.{take_all}
use Rattle.sed_lanes.specs.Lanes.{LaneState, LanesState, held_events}
use Rattle.sed_lanes.specs.Rows.{AreLanes, IsLane, row_state}
use Rattle.sed_lanes.specs.declared.lane.Lane.{Lane}
use Rattle.sed_lanes.proofs.Accepting.{state_of}

-- how many events a lane holds
abbrev pub held_in : Lane → ℕ
held_in lane = length lane.held.items

held-sum : (lanes : List Lane) → sum_by held_in lanes ≡ length (flat_map (λ (lane : LaneState). lane.held) (map row_state lanes))
held-sum [] = refl
held-sum (lane ∷ lanes) = sum_by-cons held_in lane lanes ∙ ap (λ n. held_in lane + n) (held-sum lanes) ∙ sym (length-append lane.held.items (flat_map (λ (l : LaneState). l.held) (map row_state lanes)))

-- of at most 32 lanes none holds more than 1,024
pub record IsFew (i n : ℕ) : Type 0 where
  pub lanes : i < 32
  pub events : n ≤ 1024

pub held-few : (depth current i : ℕ) (lanes items : List Lane) (lane : Lane) → AreLanes depth current lanes → items ≡ lanes → i < length items → lane ≡ get_or items i lane → IsFew i (held_in lane)
held-few depth current i lanes items lane are same lt is =
    let below : i < length lanes = subst (λ (ls : List Lane). i < length ls) same lt in
    let here : IsLane depth (get_or lanes i lane) = All-get_or (IsLane depth) lanes i lane below are.each in
    let fits : held_in lane ≤ depth = subst (λ (l : Lane). held_in l ≤ depth) (sym (is ∙ ap (λ (ls : List Lane). get_or ls i lane) same)) here.fits in
    record { lanes = omega (arith, below, are.lanes_most); events = omega (arith, fits, are.depth_most) }

-- all of them together
pub held-all : (depth current i held : ℕ) (lanes items : List Lane) (s : LanesState) → state_of depth current lanes ≡ s → items ≡ lanes → length items ≤ i → held ≡ sum_by held_in (take i items) → held ≡ length (held_events s)
held-all depth current i held lanes items s see same done is =
    is ∙ ap (sum_by held_in) (take_all i items done ∙ same) ∙ held-sum lanes ∙ ap (λ (x : LanesState). length (held_events x)) see
