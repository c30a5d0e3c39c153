-- The least cycle of the events that some lanes hold, lane by lane.
use Rattle.std.proofs.Common.{◌≡◌, ◌<◌, ◌≤◌, ℕ, ◌+◌, Bool, true, false, List, [], ◌∷◌, ◌++◌, length, take, map, get_or, refl, ap, ◌∙◌, sym, subst, arith}
use Rattle.std.specs.Prelude.{Option, Some, None, ◌&&◌, min, nat_le, nat_lt, flat_map}
use Rattle.std.specs.List.{list_all}
use Rattle.std.proofs.lemmas.Bool.Decides.{nat_tests}
use Rattle.std.proofs.lemmas.Grind.{flat_map-append}
use Rattle.std.proofs.lemmas.List.{append-nil, map-append, take_all, take_more}
use Rattle.std.proofs.lemmas.List.Elements.{All-get_or}
use Rattle.rtio_types.specs.declared.event.Event.{Event}
use Rattle.rtio_types.specs.Time.{cycle_of}
use Rattle.sed_lanes.specs.Lanes.{LaneState, LanesState}
use Rattle.sed_lanes.specs.Next.{first_cycle, least_of, lesser, next_cycle}
use Rattle.sed_lanes.specs.Queue.{IsFirst}
use Rattle.sed_lanes.specs.Rows.{AreLanes, IsLane, all_held, are_rising, row_state}
use Rattle.sed_lanes.specs.declared.lane.Lane.{Lane}
use Rattle.sed_lanes.proofs.Accepting.{state_of}

-- the cycles of events, in their order
abbrev cycles : List (ℕ × Event) → List ℕ
cycles events = map (λ p. cycle_of p.1) events

both : (a b : Bool) → (a && b) ≡ true → (a ≡ true) × (b ≡ true)
both true b h = (refl, h)
both false b h = absurd (cc)

lesser-assoc : (a b c : Option ℕ) → lesser (lesser a b) c ≡ lesser a (lesser b c)
lesser-assoc None b c = refl
lesser-assoc (Some a) None c = refl
lesser-assoc (Some a) (Some b) None = refl
lesser-assoc (Some a) (Some b) (Some c) = let same : min (min a b) c ≡ min a (min b c) = omega arith in ap Some same

least-append : (ms ns : List ℕ) → least_of (ms ++ ns) ≡ lesser (least_of ms) (least_of ns)
least-append [] ns = refl
least-append (m ∷ ms) ns =
    ap (lesser (Some m)) (least-append ms ns) ∙ sym (lesser-assoc (Some m) (least_of ms) (least_of ns))

-- none of the numbers is below what is at most each of them
least-later : (m : ℕ) (held : List (ℕ × Event)) → list_all (λ q. nat_lt m (cycle_of q.1)) held ≡ true → lesser (Some m) (least_of (cycles held)) ≡ Some m
least-later m [] later = refl
least-later m (p ∷ held) later =
    let first : nat_lt m (cycle_of p.1) ≡ true = (both _ _ later).0 in
    let below : m < cycle_of p.1 = grind (arith, nat_tests) in
    let same : min m (cycle_of p.1) ≡ m = omega arith in
    sym (lesser-assoc (Some m) (Some (cycle_of p.1)) (least_of (cycles held))) ∙ ap (λ n. lesser (Some n) (least_of (cycles held))) same ∙ least-later m held (both _ _ later).1

-- the first event of a lane has the least cycle
first-least : (held : List (ℕ × Event)) (last : Option ℕ) → are_rising held ≡ true → first_cycle (record { held = held; last = last }) ≡ least_of (cycles held)
first-least [] last rising = refl
first-least (p ∷ held) last rising = sym (least-later (cycle_of p.1) held (both _ _ rising).0)

-- the least cycle of what some lanes hold
abbrev pub least_in : List Lane → Option ℕ
least_in lanes = least_of (cycles (all_held lanes))

-- one lane more
pub least-more : (lanes : List Lane) (lane : Lane) → are_rising lane.held.items ≡ true → lesser (least_in lanes) (first_cycle (row_state lane)) ≡ least_in (lanes ++ lane ∷ [])
least-more lanes lane rising =
    let one : first_cycle (row_state lane) ≡ least_in (lane ∷ []) = first-least lane.held.items lane.last rising ∙ ap (λ events. least_of (cycles events)) (sym (append-nil lane.held.items)) in
    let grown : all_held (lanes ++ lane ∷ []) ≡ all_held lanes ++ all_held (lane ∷ []) = ap (flat_map (λ (l : LaneState). l.held)) (map-append row_state lanes (lane ∷ [])) ∙ flat_map-append (λ (l : LaneState). l.held) (map row_state lanes) (map row_state (lane ∷ [])) in
    ap (lesser (least_in lanes)) one ∙ sym (ap least_of (ap cycles grown ∙ map-append (λ p. cycle_of p.1) (all_held lanes) (all_held (lane ∷ []))) ∙ least-append (cycles (all_held lanes)) (cycles (all_held (lane ∷ []))))

-- the lesser of two cycles, where the code keeps the one that is missing as a number above all
kept-lesser : (m n : ℕ) (one other : Option ℕ) → IsFirst m one → IsFirst n other → IsFirst (min m n) (lesser one other)
kept-lesser m n None None one other = omega (arith, one, other)
kept-lesser m n None (Some b) one other = let is = other.0 in let small = other.1 in (omega (arith, one, is, small), small)
kept-lesser m n (Some a) None one other = let is = one.0 in let small = one.1 in (omega (arith, is, small, other), small)
kept-lesser m n (Some a) (Some b) one other =
    let first = one.0 in
    let second = other.0 in
    let small = one.1 in
    (omega (arith, first, second), omega (arith, small))

-- the next lane of the code
pub next-more : (depth current i : ℕ) (lanes items : List Lane) (lane : Lane) (least first : ℕ) → AreLanes depth current lanes → items ≡ lanes → i < length items → lane ≡ get_or items i lane → IsFirst least (least_in (take i items)) → IsFirst first (first_cycle (row_state lane)) → IsFirst (min least first) (least_in (take (i + 1) items))
next-more depth current i lanes items lane least first are same lt is so_far here =
    let below : i < length lanes = subst (λ (ls : List Lane). i < length ls) same lt in
    let there : IsLane depth (get_or lanes i lane) = All-get_or (IsLane depth) lanes i lane below are.each in
    let rising : are_rising lane.held.items ≡ true = subst (λ (l : Lane). are_rising l.held.items ≡ true) (sym (is ∙ ap (λ (ls : List Lane). get_or ls i lane) same)) there.rising in
    let grown : lesser (least_in (take i items)) (first_cycle (row_state lane)) ≡ least_in (take (i + 1) items) = least-more (take i items) lane rising ∙ ap least_in (ap (λ l. take i items ++ l ∷ []) is ∙ sym (take_more items i lane lt)) in
    subst (IsFirst (min least first)) grown (kept-lesser least first (least_in (take i items)) (first_cycle (row_state lane)) so_far here)

-- all lanes of the code
pub next-all : (depth current i : ℕ) (lanes items : List Lane) (s : LanesState) (least : ℕ) → state_of depth current lanes ≡ s → items ≡ lanes → length items ≤ i → IsFirst least (least_in (take i items)) → IsFirst least (next_cycle s)
next-all depth current i lanes items s least see same done keeps =
    let whole : least_in (take i items) ≡ next_cycle s = ap least_in (take_all i items done ∙ same) ∙ ap next_cycle see in
    subst (IsFirst least) whole keeps

-- none is missing where an event is held
pub none-least : (ns : List ℕ) → least_of ns ≡ None → ns ≡ []
none-least [] none = refl
none-least (n ∷ ns) none = by (least_of ns) none
  where
    by : (rest : Option ℕ) → lesser (Some n) rest ≡ None → n ∷ ns ≡ []
    by None none = absurd (cc)
    by (Some m) none = absurd (cc)

join : {a b : Bool} → a ≡ true → b ≡ true → (a && b) ≡ true
join first second = rw (first, second) refl

le-true : (a b : ℕ) → a ≤ b → nat_le a b ≡ true
le-true a b h = grind (arith, nat_tests)

-- what is at most each number, and less than that
weaker : (a b : ℕ) (ns : List ℕ) → a ≤ b → list_all (nat_le b) ns ≡ true → list_all (nat_le a) ns ≡ true
weaker a b [] le all = refl
weaker a b (n ∷ ns) le all =
    let first : nat_le b n ≡ true = (both _ _ all).0 in
    let above : b ≤ n = grind (arith, nat_tests) in
    join (le-true a n (omega arith)) (weaker a b ns le (both _ _ all).1)

-- each number is the least one or more
pub least-below : (ns : List ℕ) (n : ℕ) → least_of ns ≡ Some n → list_all (nat_le n) ns ≡ true
least-below [] n is = absurd (cc)
least-below (m ∷ ns) n is = by (least_of ns) refl (least-below ns) is
  where
    by : (rest : Option ℕ) → least_of ns ≡ rest → ((k : ℕ) → least_of ns ≡ Some k → list_all (nat_le k) ns ≡ true) → lesser (Some m) rest ≡ Some n → list_all (nat_le n) (m ∷ ns) ≡ true
    by None none others is =
        let same : m ≡ n = cc in
        let nothing : ns ≡ [] = none-least ns none in
        join (le-true n m (omega arith)) (ap (list_all (nat_le n)) nothing)
    by (Some k) some others is =
        let same : min m k ≡ n = cc in
        join (le-true n m (omega arith)) (weaker n k ns (omega arith) (others k some))
