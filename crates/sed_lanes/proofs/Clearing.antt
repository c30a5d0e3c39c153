-- The lanes when each of them gives all its events away, one lane after another.
use Rattle.std.proofs.Common.{◌≡◌, ◌<◌, ◌≤◌, ◌+◌, ◌++◌, ℕ, List, [], ◌∷◌, map, replicate, set, get_or, length, refl, ap, ◌∙◌, sym, subst, arith, length-append}
use Rattle.std.specs.Prelude.{All, None, flat_map, nat_eq}
use Rattle.std.specs.List.{IsDistinct}
use Rattle.std.specs.Map.{keys_of}
use Rattle.std.proofs.lemmas.List.{length-map}
use Rattle.std.proofs.lemmas.List.Elements.{All-get_or, All-set}
use Rattle.std.proofs.lemmas.List.Folds.{length-flat_map-take}
use Rattle.rtio_types.specs.declared.event.Event.{Event}
use Rattle.sed_lanes.specs.Lanes.{LaneState, LanesState, empty_lane, empty_lanes, held_events}
use Rattle.sed_lanes.specs.Rows.{AreLanes, IsLane, row_state}
use Rattle.sed_lanes.specs.declared.lane.Lane.{Lane}
use Rattle.sed_lanes.proofs.Accepting.{state_of}
use Rattle.sed_lanes.proofs.Emptying.{Given, given-all, given-more, given-next, had, had-all, had-more}
use Rattle.sed_lanes.proofs.Made.{empty-are, empty-view}

all-emptied : (before : List LaneState) → map (λ (lane : LaneState). empty_lane) before ≡ replicate (length before) empty_lane
all-emptied [] = refl
all-emptied (lane ∷ lanes) = ap (λ (ls : List LaneState). empty_lane ∷ ls) (all-emptied lanes)

-- an empty lane, whatever it was
abbrev pub emptied : LaneState → LaneState
emptied lane = empty_lane

-- the events of a lane
abbrev pub all_of : LaneState → List (ℕ × Event)
all_of lane = lane.held

-- the first lanes were emptied into a list with its room
pub record IsCleared (depth : ℕ) (before : List LaneState) (i : ℕ) (lanes : List Lane) (items : List (ℕ × Event)) (room all : ℕ) : Type 0 where
  pub given : Given emptied before i lanes
  pub each : All (IsLane depth) lanes
  pub moved : items ≡ had all_of before i
  pub space : room + length items ≡ all

-- one lane more
pub cleared-more : (depth : ℕ) (before : List LaneState) (i : ℕ) (lanes : List Lane) (old new : Lane) (items more : List (ℕ × Event)) (room left all : ℕ) → i < length before → i < length lanes → old ≡ get_or lanes i old → IsCleared depth before i lanes items room all → row_state new ≡ empty_lane → new.held.capacity ≡ old.held.capacity → more ≡ items ++ old.held.items → left + length old.held.items ≡ room → IsCleared depth before (i + 1) (set lanes i new) more left all
cleared-more depth before i lanes old new items more room left all lt there is d empty cap moved space =
    let row : row_state old ≡ get_or before i (row_state old) = given-next emptied before i lanes old (row_state old) lt d.given there is in
    let lane : IsLane depth old = subst (IsLane depth) (sym is) (All-get_or (IsLane depth) lanes i old there d.each) in
    let long : length more ≡ length items + length old.held.items = ap (λ (ps : List (ℕ × Event)). length ps) moved ∙ length-append items old.held.items in
    let was = d.space in
    record {
      given = given-more emptied before i lanes old new lt d.given there is empty;
      each = All-set (IsLane depth) lanes i new (empty-lane depth old new lane cap empty) d.each;
      moved = moved
          ∙ ap (λ (ps : List (ℕ × Event)). ps ++ all_of (row_state old)) d.moved
          ∙ ap (λ (r : LaneState). had all_of before i ++ all_of r) row
          ∙ sym (had-more all_of before i (row_state old) lt);
      space = omega (arith, long, space, was);
    }
  where
    empty-lane : (depth : ℕ) (old new : Lane) → IsLane depth old → new.held.capacity ≡ old.held.capacity → row_state new ≡ empty_lane → IsLane depth new
    empty-lane depth old new lane cap empty =
        let held : new.held.items ≡ [] = ap (λ (r : LaneState). r.held) empty in
        let last : new.last ≡ None = ap (λ (r : LaneState). r.last) empty in
        let room = lane.room in
        record {
          room = omega (arith, cap, room);
          fits = rw held (omega arith);
          rising = rw held refl;
          up_to_last = rw (held, last) refl;
          small = rw last refl;
        }

-- there is room for the events of the next lane
pub cleared-room : (depth : ℕ) (before : List LaneState) (i : ℕ) (lanes : List Lane) (old : Lane) (items : List (ℕ × Event)) (room all : ℕ) → i < length before → i < length lanes → old ≡ get_or lanes i old → IsCleared depth before i lanes items room all → length (flat_map all_of before) ≤ all → length old.held.items ≤ room
cleared-room depth before i lanes old items room all lt there is d enough =
    let row : row_state old ≡ get_or before i (row_state old) = given-next emptied before i lanes old (row_state old) lt d.given there is in
    let more : length (had all_of before i) + length (all_of (get_or before i (row_state old))) ≤ length (flat_map all_of before) = length-flat_map-take all_of before i (row_state old) lt in
    let here : length old.held.items ≡ length (all_of (get_or before i (row_state old))) = ap (λ (r : LaneState). length r.held) row in
    let moved : length items ≡ length (had all_of before i) = ap (λ (ps : List (ℕ × Event)). length ps) d.moved in
    let space = d.space in
    omega (arith, more, here, moved, space, enough)

-- all lanes were emptied: they are lanes, with the first the current one
pub cleared-lanes : (depth current i : ℕ) (old items lanes : List Lane) (s : LanesState) (into : List (ℕ × Event)) (room all : ℕ) → state_of depth current old ≡ s → items ≡ old → AreLanes depth current old → length items ≤ i → i ≤ length items → IsCleared s.depth (map row_state items) i lanes into room all → AreLanes depth 0 lanes
cleared-lanes depth current i old items lanes s into room all see same are done le d =
    let long : length (map row_state items) ≡ length items = length-map items row_state in
    let n : ℕ = length old in
    let items_long : length items ≡ length old = ap (λ (ls : List Lane). length ls) same in
    let row : map row_state lanes ≡ map emptied (map row_state items) = given-all emptied (map row_state items) i lanes (omega (arith, long, done)) d.given in
    let empty : map row_state lanes ≡ replicate n empty_lane = row ∙ all-emptied (map row_state items) ∙ ap (λ (m : ℕ). replicate m empty_lane) (long ∙ items_long) in
    let each : All (IsLane depth) lanes = subst (λ (m : ℕ). All (IsLane m) lanes) (sym (ap (λ (x : LanesState). x.depth) see)) d.each in
    let there = are.current_there in
    empty-are n depth lanes are.depth_least are.depth_most (omega (arith, there)) are.lanes_most empty each

-- and are seen as empty
pub cleared-seen : (depth current i : ℕ) (old items lanes : List Lane) (s : LanesState) (into : List (ℕ × Event)) (room all : ℕ) → state_of depth current old ≡ s → items ≡ old → length items ≤ i → IsCleared s.depth (map row_state items) i lanes into room all → state_of depth 0 lanes ≡ empty_lanes (length s.lanes) s.depth
cleared-seen depth current i old items lanes s into room all see same done d =
    let long : length (map row_state items) ≡ length items = length-map items row_state in
    let seen_long : length s.lanes ≡ length (map row_state items) = ap (λ (x : LanesState). length x.lanes) (sym see) ∙ ap (λ (ls : List Lane). length (map row_state ls)) (sym same) in
    let row : map row_state lanes ≡ map emptied (map row_state items) = given-all emptied (map row_state items) i lanes (omega (arith, long, done)) d.given in
    let empty : map row_state lanes ≡ replicate (length s.lanes) empty_lane = row ∙ all-emptied (map row_state items) ∙ ap (λ (m : ℕ). replicate m empty_lane) (sym seen_long) in
    empty-view (length s.lanes) depth lanes empty ∙ ap (λ (n : ℕ). empty_lanes (length s.lanes) n) (ap (λ (x : LanesState). x.depth) see)

-- these were moved
pub cleared-moved : (depth current i : ℕ) (old items lanes : List Lane) (s : LanesState) (into : List (ℕ × Event)) (room all : ℕ) → state_of depth current old ≡ s → items ≡ old → length items ≤ i → IsCleared s.depth (map row_state items) i lanes into room all → into ≡ held_events s
cleared-moved depth current i old items lanes s into room all see same done d =
    let long : length (map row_state items) ≡ length items = length-map items row_state in
    d.moved ∙ had-all all_of (map row_state items) i (omega (arith, long, done))
    ∙ ap (λ (ls : List Lane). flat_map (λ (lane : LaneState). lane.held) (map row_state ls)) same
    ∙ ap held_events see

-- whose numbers differ
pub cleared-numbers : (depth current i : ℕ) (old items lanes : List Lane) (s : LanesState) (into : List (ℕ × Event)) (room all : ℕ) → state_of depth current old ≡ s → items ≡ old → AreLanes depth current old → length items ≤ i → IsCleared s.depth (map row_state items) i lanes into room all → IsDistinct nat_eq (keys_of into)
cleared-numbers depth current i old items lanes s into room all see same are done d =
    subst (λ (ps : List (ℕ × Event)). IsDistinct nat_eq (keys_of ps)) (sym (cleared-moved depth current i old items lanes s into room all see same done d ∙ sym (ap held_events see))) are.own_numbers

-- there is room for what the lanes held, as they were seen
pub seen-held : (depth current : ℕ) (old items : List Lane) (s : LanesState) (room : ℕ) → state_of depth current old ≡ s → items ≡ old → length (held_events s) ≤ room → length (flat_map all_of (map row_state items)) ≤ room
seen-held depth current old items s room see same enough =
    let held : flat_map all_of (map row_state items) ≡ held_events s = ap (λ (ls : List Lane). flat_map (λ (lane : LaneState). lane.held) (map row_state ls)) same ∙ ap held_events see in
    let long : length (flat_map all_of (map row_state items)) ≡ length (held_events s) = ap (λ (ps : List (ℕ × Event)). length ps) held in
    omega (arith, long, enough)
