-- The lanes when one of them takes an event.
use Rattle.std.proofs.Common.{◌≡◌, ◌<◌, ◌+◌, ◌^◌, ℕ, zero, suc, Bool, true, false, List, [], ◌∷◌, ◌++◌, map, set, get_or, length, refl, ap, ◌∙◌, sym, subst, arith, append_assoc}
use Rattle.std.specs.Prelude.{Option, Some, nat_eq, nat_lt, nat_le, ◌&&◌}
use Rattle.std.specs.List.{list_all, IsDistinct, AllByRecursion}
use Rattle.std.specs.List.Sorted.{IsPermutation}
use Rattle.std.specs.Map.{keys_of}
use Rattle.std.proofs.lemmas.Bool.Decides.{nat_tests}
use Rattle.std.proofs.lemmas.List.{get_or-map, length-map, length-set, map-set}
use Rattle.std.proofs.lemmas.Nat.{mod_below}
use Rattle.std.proofs.lemmas.List.Elements.{All-get_or, All-set}
use Rattle.std.proofs.lemmas.List.Sorted.{IsPermutation-append_right, IsPermutation-map, IsPermutation-middle, IsPermutation-sym, IsPermutation-trans}
use Rattle.std.proofs.lemmas.Map.Keys.{IsDistinct-IsPermutation, IsDistinct-cons}
use Rattle.rtio_types.specs.declared.event.Event.{Event}
use Rattle.rtio_types.specs.Time.{cycle_of}
use Rattle.sed_lanes.specs.Lanes.{LaneState, LanesState, empty_lane, is_full_lane, is_later, may_enter, next_lane, with_accepted}
use Rattle.sed_lanes.specs.Calls.{is_new_number}
use Rattle.sed_lanes.specs.Rows.{AreLanes, IsLane, all_held, row_state}
use Rattle.sed_lanes.specs.declared.lane.Lane.{Lane}
use Rattle.sed_lanes.proofs.Risings.{rising-push, up-to-push}

-- a lane that took an event: the new one behind the others
pub record Took (old new : Lane) (number : ℕ) (e : Event) : Type 0 where
  pub held : new.held.items ≡ old.held.items ++ (number, e) ∷ []
  pub last : new.last ≡ Some (cycle_of e)
  pub small : cycle_of e < 2 ^ 60
  pub room : new.held.capacity ≡ old.held.capacity

length-push : (xs : List (ℕ × Event)) (p : ℕ × Event) → length (xs ++ p ∷ []) ≡ length xs + 1
length-push [] p = refl
length-push (x ∷ xs) p = let ih = length-push xs p in omega (arith, ih)

-- it is still a lane, if it had room and the event is later than its last cycle
pub took-lane : (depth : ℕ) (old new : Lane) (number : ℕ) (e : Event) → IsLane depth old → Took old new number e → length old.held.items < depth → is_later old.last (cycle_of e) ≡ true → IsLane depth new
took-lane depth old new number e lane took room later = record {
  room = let cap : new.held.capacity ≡ old.held.capacity = took.room in let had = lane.room in omega (arith, cap, had);
  fits = let len : length new.held.items ≡ length old.held.items + 1 = ap (λ (l : List (ℕ × Event)). length l) took.held ∙ length-push old.held.items (number, e) in omega (arith, len, room);
  rising = rw took.held (rising-push old.last old.held.items (number, e) lane.rising lane.up_to_last later);
  up_to_last = rw (took.held, took.last) (up-to-push old.last old.held.items (number, e) lane.up_to_last later);
  small = let lt : nat_lt (cycle_of e) (2 ^ 60) ≡ true = grind (arith, nat_tests, took.small) in rw took.last lt;
}

-- the new event is put among those that the lanes hold
held-set : (lanes : List Lane) (k : ℕ) (new d : Lane) (number : ℕ) (e : Event) → k < length lanes → new.held.items ≡ (get_or lanes k d).held.items ++ (number, e) ∷ [] → IsPermutation ((number, e) ∷ all_held lanes) (all_held (set lanes k new))
held-set [] k new d number e lt is = absurd (omega (arith, lt))
held-set (lane ∷ lanes) zero new d number e lt is =
    rw (is, append_assoc)
    (IsPermutation-sym (lane.held.items ++ (number, e) ∷ all_held lanes) ((number, e) ∷ (lane.held.items ++ all_held lanes))
    (IsPermutation-middle lane.held.items (number, e) (all_held lanes)))
held-set (lane ∷ lanes) (suc k) new d number e lt is =
    let less : k < length lanes = omega (arith, lt) in
    let ih = held-set lanes k new d number e less is in
    IsPermutation-trans ((number, e) ∷ (lane.held.items ++ all_held lanes)) (lane.held.items ++ (number, e) ∷ all_held lanes) (lane.held.items ++ all_held (set lanes k new))
    (IsPermutation-sym (lane.held.items ++ (number, e) ∷ all_held lanes) ((number, e) ∷ (lane.held.items ++ all_held lanes))
    (IsPermutation-middle lane.held.items (number, e) (all_held lanes)))
    (IsPermutation-append_right lane.held.items ((number, e) ∷ all_held lanes) (all_held (set lanes k new)) ih)

new-number : (number : ℕ) (held : List (ℕ × Event)) → list_all (λ p. nat_lt p.0 number) held ≡ true → AllByRecursion (λ n. nat_eq number n ≡ false) (keys_of held)
new-number number [] all = tt
new-number number (p ∷ rest) all =
    let parts = both (nat_lt p.0 number) (list_all (λ q. nat_lt q.0 number) rest) all in
    (grind (arith, nat_tests, parts.0), new-number number rest parts.1)
  where
    both : (a b : Bool) → (a && b) ≡ true → (a ≡ true) × (b ≡ true)
    both true b h = (refl, h)
    both false b h = absurd (cc)

-- with a new number no two have one
pub held-distinct : (lanes : List Lane) (k : ℕ) (new d : Lane) (number : ℕ) (e : Event) → k < length lanes → new.held.items ≡ (get_or lanes k d).held.items ++ (number, e) ∷ [] → list_all (λ p. nat_lt p.0 number) (all_held lanes) ≡ true → IsDistinct nat_eq (keys_of (all_held lanes)) → IsDistinct nat_eq (keys_of (all_held (set lanes k new)))
held-distinct lanes k new d number e lt is all distinct =
    IsDistinct-IsPermutation nat_eq (λ n m. grind (arith, nat_tests)) (keys_of ((number, e) ∷ all_held lanes)) (keys_of (all_held (set lanes k new)))
    (IsPermutation-map (λ (p : ℕ × Event). p.0) ((number, e) ∷ all_held lanes) (all_held (set lanes k new)) (held-set lanes k new d number e lt is))
    (IsDistinct-cons nat_eq number (keys_of (all_held lanes)) (new-number number (all_held lanes) all) distinct)

-- lanes as they are seen
abbrev pub state_of : (depth current : ℕ) → List Lane → LanesState
state_of depth current lanes = record { depth = depth; current = current; lanes = map row_state lanes }

-- a lane as it is seen
pub row-at : (lanes : List Lane) (k : ℕ) (old : Lane) → k < length lanes → old ≡ get_or lanes k old → get_or (map row_state lanes) k empty_lane ≡ row_state old
row-at lanes k old lt is = get_or-map row_state lanes k old empty_lane lt ∙ ap row_state (sym is)

-- they are still lanes
pub took-lanes : (depth current k : ℕ) (lanes : List Lane) (old new : Lane) (number : ℕ) (e : Event) → AreLanes depth current lanes → k < length lanes → old ≡ get_or lanes k old → Took old new number e → is_full_lane (state_of depth current lanes) k ≡ false → may_enter (state_of depth current lanes) k e ≡ true → is_new_number number (state_of depth current lanes) ≡ true → AreLanes depth k (set lanes k new)
took-lanes depth current k lanes old new number e are lt is took room later all =
    let row : get_or (map row_state lanes) k empty_lane ≡ row_state old = row-at lanes k old lt is in
    let spare : nat_le depth (length old.held.items) ≡ false = ap (λ (r : LaneState). nat_le depth (length r.held)) (sym row) ∙ room in
    let less : length old.held.items < depth = grind (arith, nat_tests, spare) in
    let after : is_later old.last (cycle_of e) ≡ true = ap (λ (r : LaneState). is_later r.last (cycle_of e)) (sym row) ∙ later in
    let lane : IsLane depth old = subst (IsLane depth) (sym is) (All-get_or (IsLane depth) lanes k old lt are.each) in
    let held : new.held.items ≡ (get_or lanes k old).held.items ++ (number, e) ∷ [] = took.held ∙ ap (λ (l : Lane). l.held.items ++ (number, e) ∷ []) is in
    record {
      depth_least = are.depth_least;
      depth_most = are.depth_most;
      current_there = rw length-set lt;
      lanes_most = rw length-set are.lanes_most;
      each = All-set (IsLane depth) lanes k new (took-lane depth old new number e lane took less after) are.each;
      own_numbers = held-distinct lanes k new old number e lt held all are.own_numbers;
    }

-- and are seen as with the event
pub took-view : (depth current k : ℕ) (lanes : List Lane) (old new : Lane) (number : ℕ) (e : Event) → k < length lanes → old ≡ get_or lanes k old → Took old new number e → state_of depth k (set lanes k new) ≡ with_accepted (state_of depth current lanes) k number e
took-view depth current k lanes old new number e lt is took =
    let held : new.held.items ≡ (get_or (map row_state lanes) k empty_lane).held ++ (number, e) ∷ [] =
    took.held ∙ ap (λ (r : LaneState). r.held ++ (number, e) ∷ []) (sym (row-at lanes k old lt is)) in
    let row : row_state new ≡ record { held = (get_or (map row_state lanes) k empty_lane).held ++ (number, e) ∷ []; last = Some (cycle_of e) } =
    ap (λ (h : List (ℕ × Event)). record { held = h; last = new.last }) held
    ∙ ap (λ (l : Option ℕ). record { held = (get_or (map row_state lanes) k empty_lane).held ++ (number, e) ∷ []; last = l }) took.last in
    ap (λ (ls : List LaneState). record { depth = depth; current = k; lanes = ls })
    (map-set row_state lanes k new ∙ ap (set (map row_state lanes) k) row)

-- a lane that is seen is there
pub lane-there : (depth current k : ℕ) (lanes : List Lane) (s : LanesState) → state_of depth current lanes ≡ s → k < length s.lanes → k < length lanes
lane-there depth current k lanes s see lt =
    let there : k < length (map row_state lanes) = subst (λ (x : LanesState). k < length x.lanes) (sym see) lt in
    rw (length-map lanes row_state) at there

-- the current lane is there
pub current-seen : (depth current : ℕ) (lanes : List Lane) (s : LanesState) → AreLanes depth current lanes → state_of depth current lanes ≡ s → s.current < length s.lanes
current-seen depth current lanes s are see =
    subst (λ (x : LanesState). x.current < length x.lanes) see (rw (length-map lanes row_state) are.current_there)

-- and so is the next one
pub next-seen : (s : LanesState) → s.current < length s.lanes → next_lane s < length s.lanes
next-seen s below = let some : 0 < length s.lanes = omega (arith, below) in mod_below (s.current + 1) (length s.lanes) some
