-- The lanes when each of them gives some of its events away, one lane after another.
use Rattle.std.proofs.Common.{◌≡◌, ◌<◌, ◌≤◌, ◌+◌, ℕ, zero, suc, Bool, true, false, List, [], ◌∷◌, ◌++◌, map, set, take, drop, get_or, length, refl, ap, ◌∙◌, sym, subst, arith, cond, append-nil, add-one, length-append, length-drop}
use Rattle.std.specs.Prelude.{Option, All, filter, flat_map, nat_eq, nat_le, not, ◌==◌, ◌-◌}
use Rattle.std.specs.List.{list_all, IsDistinct}
use Rattle.std.specs.Map.{keys_of}
use Rattle.std.proofs.Math.Seq.{take-append_seam, take-suc}
use Rattle.std.proofs.lemmas.Grind.{flat_map-append}
use Rattle.std.proofs.lemmas.List.{drop_all, get_or-append-add, get_or-drop, get_or-map, length-map, length-take-le, map-set, take_all}
use Rattle.std.proofs.lemmas.List.Elements.{All-get_or, All-set, filter-append}
use Rattle.std.proofs.lemmas.List.Edits.{map_over_more}
use Rattle.rtio_types.specs.declared.event.Event.{Event}
use Rattle.rtio_types.specs.Time.{cycle_of}
use Rattle.sed_lanes.specs.Calls.{held_at, without}
use Rattle.sed_lanes.specs.Lanes.{LaneState, LanesState, held_events}
use Rattle.sed_lanes.specs.Rows.{AreLanes, IsLane, all_held, row_state}
use Rattle.sed_lanes.specs.declared.lane.Lane.{Lane}
use Rattle.sed_lanes.proofs.Accepting.{state_of}
use Rattle.sed_lanes.proofs.Risings.{rising-filter, up-to-filter}
use Rattle.sed_lanes.proofs.Standing.{all-append as all-parts}
use Rattle.std.proofs.lemmas.Map.Made.{IsDistinct-keys_filter}

-- the first lanes have given what a function says, the others are as they were
abbrev pub Given : (LaneState → LaneState) → (before : List LaneState) → (i : ℕ) → List Lane → Type 0
Given f before i lanes = map row_state lanes ≡ map f (take i before) ++ drop i before

-- what the first lanes had, of their events
abbrev pub had : (LaneState → List (ℕ × Event)) → List LaneState → ℕ → List (ℕ × Event)
had of before i = flat_map of (take i before)

-- one lane more
pub given-more : (f : LaneState → LaneState) (before : List LaneState) (i : ℕ) (lanes : List Lane) (old new : Lane) → i < length before → Given f before i lanes → i < length lanes → old ≡ get_or lanes i old → row_state new ≡ f (row_state old) → Given f before (i + 1) (set lanes i new)
given-more f before i lanes old new lt given there is row =
    let at : row_state old ≡ get_or (map row_state lanes) i (row_state old) =
    ap row_state is ∙ sym (get_or-map row_state lanes i old (row_state old) there) in
    map-set row_state lanes i new ∙ ap (set (map row_state lanes) i) row
    ∙ map_over_more f before (map row_state lanes) i (row_state old) lt given at

-- what one lane more had
pub had-more : (of : LaneState → List (ℕ × Event)) (before : List LaneState) (i : ℕ) (d : LaneState) → i < length before → had of before (i + 1) ≡ had of before i ++ of (get_or before i d)
had-more of before i d lt =
    ap (flat_map of) (ap (λ (n : ℕ). take n before) (add-one i) ∙ take-suc before i d lt)
    ∙ flat_map-append of (take i before) (get_or before i d ∷ [])
    ∙ ap (λ (ps : List (ℕ × Event)). had of before i ++ ps) (append-nil (of (get_or before i d)))

-- the next lane is as it was
pub given-next : (f : LaneState → LaneState) (before : List LaneState) (i : ℕ) (lanes : List Lane) (old : Lane) (d : LaneState) → i < length before → Given f before i lanes → i < length lanes → old ≡ get_or lanes i old → row_state old ≡ get_or before i d
given-next f before i lanes old d lt given there is =
    let seen : row_state old ≡ get_or (map row_state lanes) i d = ap row_state is ∙ sym (get_or-map row_state lanes i old d there) in
    let long : length (map f (take i before)) ≡ i = length-map (take i before) f ∙ length-take-le i before (omega (arith, lt)) in
    let there0 : length (map f (take i before)) + 0 ≡ i = omega (arith, long) in
    let here : i + 0 ≡ i = omega arith in
    seen ∙ ap (λ (ls : List LaneState). get_or ls i d) given ∙ ap (λ (n : ℕ). get_or (map f (take i before) ++ drop i before) n d) (sym there0)
    ∙ get_or-append-add (map f (take i before)) (drop i before) 0 d
    ∙ get_or-drop i before 0 d ∙ ap (λ (n : ℕ). get_or before n d) here

-- as many lanes as before
pub given-length : (f : LaneState → LaneState) (before : List LaneState) (i : ℕ) (lanes : List Lane) → i ≤ length before → Given f before i lanes → length lanes ≡ length before
given-length f before i lanes le given =
    let long : length (map row_state lanes) ≡ length (map f (take i before)) + length (drop i before) =
    ap (λ (ls : List LaneState). length ls) given ∙ length-append (map f (take i before)) (drop i before) in
    let first : length (map f (take i before)) ≡ i = length-map (take i before) f ∙ length-take-le i before le in
    let others : length (drop i before) ≡ length before - i = length-drop i before in
    let same : length (map row_state lanes) ≡ length lanes = length-map lanes row_state in
    omega (arith, long, first, others, same, le)

-- when all have given
pub given-all : (f : LaneState → LaneState) (before : List LaneState) (i : ℕ) (lanes : List Lane) → length before ≤ i → Given f before i lanes → map row_state lanes ≡ map f before
given-all f before i lanes le given =
    given ∙ ap (λ (ls : List LaneState). map f ls ++ drop i before) (take_all i before le) ∙ ap (λ (ls : List LaneState). map f before ++ ls) (drop_all i before le) ∙ append-nil (map f before)

pub had-all : (of : LaneState → List (ℕ × Event)) (before : List LaneState) (i : ℕ) → length before ≤ i → had of before i ≡ flat_map of before
had-all of before i le = ap (flat_map of) (take_all i before le)

-- filtering what the lanes hold is filtering what each holds
pub filter-held : (test : ℕ × Event → Bool) (lanes : List LaneState) → filter test (flat_map (λ (lane : LaneState). lane.held) lanes) ≡ flat_map (λ (lane : LaneState). filter test lane.held) lanes
filter-held test [] = refl
filter-held test (lane ∷ lanes) = filter-append test lane.held (flat_map (λ (l : LaneState). l.held) lanes) ∙ ap (λ (ps : List (ℕ × Event)). filter test lane.held ++ ps) (filter-held test lanes)

-- what all lanes hold pass, each lane holds
pub all-at : (test : ℕ × Event → Bool) (lanes : List LaneState) (i : ℕ) (d : LaneState) → i < length lanes → list_all test (flat_map (λ (lane : LaneState). lane.held) lanes) ≡ true → list_all test (get_or lanes i d).held ≡ true
all-at test [] i d lt all = absurd (omega (arith, lt))
all-at test (lane ∷ lanes) zero d lt all = (all-parts test lane.held (flat_map (λ (l : LaneState). l.held) lanes) all).0
all-at test (lane ∷ lanes) (suc i) d lt all =
    let less : i < length lanes = omega (arith, lt) in
    all-at test lanes i d less (all-parts test lane.held (flat_map (λ (l : LaneState). l.held) lanes) all).1

-- a lane without the event of a cycle
abbrev pub drained : ℕ → LaneState → LaneState
drained cycle lane = record lane { held = filter (λ p. not (cycle_of p.1 == cycle)) lane.held }

-- a lane's event of a cycle
abbrev pub of_cycle : ℕ → LaneState → List (ℕ × Event)
of_cycle cycle lane = filter (λ p. cycle_of p.1 == cycle) lane.held

-- the first lanes were drained into a list with its room
pub record IsDrained (depth cycle : ℕ) (before : List LaneState) (i : ℕ) (lanes : List Lane) (items : List (ℕ × Event)) (room all : ℕ) : Type 0 where
  pub given : Given (drained cycle) before i lanes
  pub each : All (IsLane depth) lanes
  pub moved : items ≡ had (of_cycle cycle) before i
  pub space : room + length items ≡ all
  pub few : length items ≤ i

-- a lane that gave its event of a cycle
pub record GaveOf (cycle : ℕ) (old new : Lane) : Type 0 where
  pub left : new.held.items ≡ filter (λ p. not (cycle_of p.1 == cycle)) old.held.items
  pub last : new.last ≡ old.last
  pub room : new.held.capacity ≡ old.held.capacity

pub filter-short : (test : ℕ × Event → Bool) (ps : List (ℕ × Event)) → length (filter test ps) ≤ length ps
filter-short test [] = omega arith
filter-short test (p ∷ ps) = let ih = filter-short test ps in filter-short-at (test p) ih
  where
    filter-short-at : (b : Bool) → length (filter test ps) ≤ length ps → length (cond b (p ∷ filter test ps) (filter test ps)) ≤ suc (length ps)
    filter-short-at true ih = omega (arith, ih)
    filter-short-at false ih = omega (arith, ih)

-- it is still a lane
pub gave-lane : (depth cycle : ℕ) (old new : Lane) → IsLane depth old → GaveOf cycle old new → IsLane depth new
gave-lane depth cycle old new lane gave = record {
  room = let cap : new.held.capacity ≡ old.held.capacity = gave.room in let was = lane.room in omega (arith, cap, was);
  fits = let short : length (filter (λ p. not (cycle_of p.1 == cycle)) old.held.items) ≤ length old.held.items = filter-short (λ p. not (cycle_of p.1 == cycle)) old.held.items in let was = lane.fits in let same : length new.held.items ≡ length (filter (λ p. not (cycle_of p.1 == cycle)) old.held.items) = ap (λ (ps : List (ℕ × Event)). length ps) gave.left in omega (arith, short, was, same);
  rising = rw gave.left (rising-filter (λ p. not (cycle_of p.1 == cycle)) old.held.items lane.rising);
  up_to_last = rw (gave.left, gave.last) (up-to-filter (λ p. not (cycle_of p.1 == cycle)) old.last old.held.items lane.up_to_last);
  small = rw gave.last lane.small;
}

gave-row : (cycle : ℕ) (old new : Lane) → GaveOf cycle old new → row_state new ≡ drained cycle (row_state old)
gave-row cycle old new gave =
    ap (λ (ps : List (ℕ × Event)). record { held = ps; last = new.last }) gave.left
    ∙ ap (λ (l : Option ℕ). record { held = filter (λ p. not (cycle_of p.1 == cycle)) old.held.items; last = l }) gave.last

-- one lane more
pub drained-more : (depth cycle : ℕ) (before : List LaneState) (i : ℕ) (lanes : List Lane) (old new : Lane) (items more : List (ℕ × Event)) (room left all : ℕ) → i < length before → i < length lanes → old ≡ get_or lanes i old → IsDrained depth cycle before i lanes items room all → GaveOf cycle old new → more ≡ items ++ filter (λ p. cycle_of p.1 == cycle) old.held.items → left + length more ≡ room + length items → length more ≤ length items + 1 → IsDrained depth cycle before (i + 1) (set lanes i new) more left all
drained-more depth cycle before i lanes old new items more room left all lt there is d gave moved space few =
    let row : row_state old ≡ get_or before i (row_state old) = given-next (drained cycle) before i lanes old (row_state old) lt d.given there is in
    let lane : IsLane depth old = subst (IsLane depth) (sym is) (All-get_or (IsLane depth) lanes i old there d.each) in
    record {
      given = given-more (drained cycle) before i lanes old new lt d.given there is (gave-row cycle old new gave);
      each = All-set (IsLane depth) lanes i new (gave-lane depth cycle old new lane gave) d.each;
      moved = moved
          ∙ ap (λ (ps : List (ℕ × Event)). ps ++ of_cycle cycle (row_state old)) d.moved
          ∙ ap (λ (r : LaneState). had (of_cycle cycle) before i ++ of_cycle cycle r) row
          ∙ sym (had-more (of_cycle cycle) before i (row_state old) lt);
      space = space ∙ d.space;
      few = let was = d.few in omega (arith, was, few);
    }

-- no lane was drained yet
pub drained-none : (depth cycle : ℕ) (lanes : List Lane) (room : ℕ) → All (IsLane depth) lanes → IsDrained depth cycle (map row_state lanes) 0 lanes [] room room
drained-none depth cycle lanes room each = record {
  given = refl;
  each = each;
  moved = refl;
  space = omega arith;
  few = omega arith;
}

pub held-drained : (cycle : ℕ) (before : List LaneState) → flat_map (λ (lane : LaneState). lane.held) (map (drained cycle) before) ≡ filter (λ p. not (cycle_of p.1 == cycle)) (flat_map (λ (lane : LaneState). lane.held) before)
held-drained cycle [] = refl
held-drained cycle (lane ∷ lanes) =
    ap (λ (ps : List (ℕ × Event)). filter (λ p. not (cycle_of p.1 == cycle)) lane.held ++ ps) (held-drained cycle lanes)
    ∙ sym (filter-append (λ p. not (cycle_of p.1 == cycle)) lane.held (flat_map (λ (l : LaneState). l.held) lanes))

-- all lanes were drained: they are lanes
pub drained-are : (depth current cycle i : ℕ) (old lanes : List Lane) (items : List (ℕ × Event)) (room all : ℕ) → AreLanes depth current old → length (map row_state old) ≤ i → i ≤ length (map row_state old) → IsDrained depth cycle (map row_state old) i lanes items room all → AreLanes depth current lanes
drained-are depth current cycle i old lanes items room all are done le d =
    let count : length lanes ≡ length old = given-length (drained cycle) (map row_state old) i lanes le d.given ∙ length-map old row_state in
    let there = are.current_there in
    let most = are.lanes_most in
    let held : all_held lanes ≡ filter (λ p. not (cycle_of p.1 == cycle)) (all_held old) =
    ap (flat_map (λ (lane : LaneState). lane.held)) (given-all (drained cycle) (map row_state old) i lanes done d.given)
    ∙ held-drained cycle (map row_state old) in
    record {
      depth_least = are.depth_least;
      depth_most = are.depth_most;
      current_there = omega (arith, count, there);
      lanes_most = omega (arith, count, most);
      each = d.each;
      own_numbers = subst (λ (ps : List (ℕ × Event)). IsDistinct nat_eq (keys_of ps)) (sym held) (IsDistinct-keys_filter nat_eq (λ p. not (cycle_of p.1 == cycle)) (all_held old) are.own_numbers);
    }

-- and are seen without the events of the cycle
pub drained-view : (depth current cycle i : ℕ) (old lanes : List Lane) (items : List (ℕ × Event)) (room all : ℕ) → length (map row_state old) ≤ i → IsDrained depth cycle (map row_state old) i lanes items room all → state_of depth current lanes ≡ without cycle (state_of depth current old)
drained-view depth current cycle i old lanes items room all done d =
    ap (λ (ls : List LaneState). record { depth = depth; current = current; lanes = ls }) (given-all (drained cycle) (map row_state old) i lanes done d.given)

-- these were moved
pub drained-moved : (depth current cycle i : ℕ) (old lanes : List Lane) (items : List (ℕ × Event)) (room all : ℕ) → length (map row_state old) ≤ i → IsDrained depth cycle (map row_state old) i lanes items room all → items ≡ held_at cycle (state_of depth current old)
drained-moved depth current cycle i old lanes items room all done d =
    d.moved ∙ had-all (of_cycle cycle) (map row_state old) i done ∙ sym (filter-held (λ p. cycle_of p.1 == cycle) (map row_state old))

-- what a slice's loop leaves in a vector of as many elements
pub whole : {X : Type 0} (n : ℕ) (xs ys : List X) → length xs ≡ n → take n (xs ++ ys) ≡ xs
whole n xs ys is = ap (λ (m : ℕ). take m (xs ++ ys)) (sym is) ∙ take-append_seam xs ys

-- the same of the lanes that the code had, as they were seen
pub drained-lanes : (depth current cycle i : ℕ) (old items lanes : List Lane) (s : LanesState) (into : List (ℕ × Event)) (room all : ℕ) → state_of depth current old ≡ s → items ≡ old → AreLanes depth current old → length items ≤ i → i ≤ length items → IsDrained s.depth cycle (map row_state items) i lanes into room all → AreLanes depth current lanes
drained-lanes depth current cycle i old items lanes s into room all see same are done le d =
    let long : length (map row_state old) ≡ length items = length-map old row_state ∙ sym (ap (λ (ls : List Lane). length ls) same) in
    let deep : IsDrained depth cycle (map row_state old) i lanes into room all =
    subst (λ (n : ℕ). IsDrained n cycle (map row_state old) i lanes into room all) (sym (ap (λ (x : LanesState). x.depth) see))
    (subst (λ (ls : List Lane). IsDrained s.depth cycle (map row_state ls) i lanes into room all) same d) in
    drained-are depth current cycle i old lanes into room all are (omega (arith, long, done)) (omega (arith, long, le)) deep

pub drained-items : (depth current cycle i : ℕ) (old items lanes : List Lane) (s : LanesState) (into : List (ℕ × Event)) (room all : ℕ) → state_of depth current old ≡ s → items ≡ old → length items ≤ i → IsDrained s.depth cycle (map row_state items) i lanes into room all → into ≡ held_at cycle s
drained-items depth current cycle i old items lanes s into room all see same done d =
    let long : length (map row_state old) ≡ length items = length-map old row_state ∙ sym (ap (λ (ls : List Lane). length ls) same) in
    drained-moved s.depth current cycle i old lanes into room all (omega (arith, long, done))
    (subst (λ (ls : List Lane). IsDrained s.depth cycle (map row_state ls) i lanes into room all) same d)
    ∙ ap (held_at cycle) (ap (λ (n : ℕ). record { depth = n; current = current; lanes = map row_state old }) (sym (ap (λ (x : LanesState). x.depth) see)) ∙ see)

pub drained-seen : (depth current cycle i : ℕ) (old items lanes : List Lane) (s : LanesState) (into : List (ℕ × Event)) (room all : ℕ) → state_of depth current old ≡ s → items ≡ old → length items ≤ i → IsDrained s.depth cycle (map row_state items) i lanes into room all → state_of depth current lanes ≡ without cycle s
drained-seen depth current cycle i old items lanes s into room all see same done d =
    let long : length (map row_state old) ≡ length items = length-map old row_state ∙ sym (ap (λ (ls : List Lane). length ls) same) in
    drained-view depth current cycle i old lanes into room all (omega (arith, long, done))
    (subst (λ (n : ℕ). IsDrained n cycle (map row_state old) i lanes into room all) (sym (ap (λ (x : LanesState). x.depth) see))
    (subst (λ (ls : List Lane). IsDrained s.depth cycle (map row_state ls) i lanes into room all) same d))
    ∙ ap (without cycle) see

-- the next lane holds none of an earlier cycle
pub next-from : (depth current cycle i : ℕ) (old items lanes : List Lane) (s : LanesState) (lane : Lane) (into : List (ℕ × Event)) (room all : ℕ) → state_of depth current old ≡ s → items ≡ old → list_all (λ p. nat_le cycle (cycle_of p.1)) (held_events s) ≡ true → i < length items → i < length lanes → lane ≡ get_or lanes i lane → IsDrained s.depth cycle (map row_state items) i lanes into room all → list_all (λ p. nat_le cycle (cycle_of p.1)) lane.held.items ≡ true
next-from depth current cycle i old items lanes s lane into room all see same from lt there is d =
    let below : i < length (map row_state items) = rw (length-map items row_state) lt in
    let row : row_state lane ≡ get_or (map row_state items) i (row_state lane) = given-next (drained cycle) (map row_state items) i lanes lane (row_state lane) below d.given there is in
    let held : list_all (λ p. nat_le cycle (cycle_of p.1)) (flat_map (λ (l : LaneState). l.held) (map row_state items)) ≡ true =
    ap (λ (ls : List Lane). list_all (λ p. nat_le cycle (cycle_of p.1)) (flat_map (λ (l : LaneState). l.held) (map row_state ls))) same
    ∙ ap (λ (x : LanesState). list_all (λ p. nat_le cycle (cycle_of p.1)) (held_events x)) see ∙ from in
    ap (λ (r : LaneState). list_all (λ p. nat_le cycle (cycle_of p.1)) r.held) row
    ∙ all-at (λ p. nat_le cycle (cycle_of p.1)) (map row_state items) i (row_state lane) below held
