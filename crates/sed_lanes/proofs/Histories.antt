-- What one step more does to the history of the lanes.
use Rattle.std.proofs.Common.{◌≡◌, ℕ, ◌+◌, ◌<◌, ◌≤◌, Bool, true, false, List, [], ◌∷◌, ◌++◌, map, refl, ap, ◌∙◌, sym, arith, ◌≢◌, append-nil, zero, suc, set, get_or, length, ◌%◌}
use Rattle.std.specs.Prelude.{Option, Some, filter, nat_lt, ◌==◌, if◌then◌else◌, not, nat_le, ◌&&◌}
use Rattle.std.proofs.lemmas.List.Sums.{fold-append}
use Rattle.std.proofs.lemmas.List.Elements.{filter_map-append, filter-append}
use Rattle.std.proofs.lemmas.Bool.{eq-eqb}
use Rattle.std.proofs.lemmas.List.{length-map}
use Rattle.std.proofs.lemmas.Bool.Decides.{nat_tests}
use Rattle.std.specs.List.{range_with_len}
use Rattle.rtio_types.specs.declared.event.Event.{Event}
use Rattle.rtio_types.specs.Time.{cycle_of}
use Rattle.sed_lanes.specs.Lanes.{LaneState, LanesState, with_accepted, empty_lane, is_full_lane, is_later, may_enter, next_lane}
use Rattle.sed_lanes.specs.Verdict.{Verdict, Underflow, Lane, Sequence, Undecided, verdict, current_takes}
use Rattle.sed_lanes.specs.Judged.{LaneStep, Submit, Clear, Judged, Submitted, Cleared, judged, since_clearing, accepted_into, last_cycle, current_lane, lane_of, lanes_after, next_number}

-- a submitted event gets the next number and the verdict of the history before it
pub judged-submit : (lanes depth : ℕ) (steps : List LaneStep) (at : ℕ) (e : Event) → judged lanes depth (steps ++ Submit at e ∷ []) ≡ judged lanes depth steps ++ Submitted (next_number (judged lanes depth steps)) at e (verdict (lanes_after lanes depth (judged lanes depth steps) at) e at) ∷ []
judged-submit lanes depth steps at e = fold-append _ _ steps (Submit at e ∷ [])

pub judged-clear : (lanes depth : ℕ) (steps : List LaneStep) (at : ℕ) → judged lanes depth (steps ++ Clear at ∷ []) ≡ judged lanes depth steps ++ Cleared at ∷ []
judged-clear lanes depth steps at = fold-append _ _ steps (Clear at ∷ [])

pub since_clearing-submitted : (judged : List Judged) (number at : ℕ) (e : Event) (v : Verdict) → since_clearing (judged ++ Submitted number at e v ∷ []) ≡ since_clearing judged ++ Submitted number at e v ∷ []
since_clearing-submitted judged number at e v = fold-append _ _ judged (Submitted number at e v ∷ [])

pub since_clearing-cleared : (judged : List Judged) (at : ℕ) → since_clearing (judged ++ Cleared at ∷ []) ≡ []
since_clearing-cleared judged at = fold-append _ _ judged (Cleared at ∷ [])

-- a lane that takes an event has it last
pub accepted_into-taken : (judged : List Judged) (k number at : ℕ) (e : Event) → accepted_into k (judged ++ Submitted number at e (Lane k) ∷ []) ≡ accepted_into k judged ++ (number, e) ∷ []
accepted_into-taken judged k number at e =
    rw (since_clearing-submitted judged number at e (Lane k), filter_map-append, eq-eqb k k refl) refl

-- no other lane has it
pub accepted_into-other : (judged : List Judged) (j k number at : ℕ) (e : Event) → k ≢ j → accepted_into j (judged ++ Submitted number at e (Lane k) ∷ []) ≡ accepted_into j judged
accepted_into-other judged j k number at e differ =
    let no : (k == j) ≡ false = grind (arith, nat_tests, differ) in
    rw (since_clearing-submitted judged number at e (Lane k), filter_map-append, no) (append-nil _)

pub current_lane-taken : (judged : List Judged) (k number at : ℕ) (e : Event) → current_lane (judged ++ Submitted number at e (Lane k) ∷ []) ≡ k
current_lane-taken judged k number at e = rw (since_clearing-submitted judged number at e (Lane k)) (fold-append _ _ (since_clearing judged) (Submitted number at e (Lane k) ∷ []))

pub last_cycle-push : (events : List (ℕ × Event)) (p : ℕ × Event) → last_cycle (events ++ p ∷ []) ≡ Some (cycle_of p.1)
last_cycle-push events p = fold-append _ _ events (p ∷ [])

-- an event of a later cycle is held by the lane that took it
pub lane_of-push : (counter : ℕ) (events : List (ℕ × Event)) (p : ℕ × Event) → counter < cycle_of p.1 → lane_of counter (events ++ p ∷ []) ≡ record { held = (lane_of counter events).held ++ p ∷ []; last = Some (cycle_of p.1) }
lane_of-push counter events p later =
    let yes : nat_lt counter (cycle_of p.1) ≡ true = grind (arith, nat_tests, later) in
    rw (last_cycle-push events p, filter-append, yes) refl

-- functions that differ at a number below give the same list
map-below : {X : Type 0} (f g : ℕ → X) (a n i : ℕ) → i < a → ((j : ℕ) → i ≢ j → g j ≡ f j) → map g (range_with_len a n) ≡ map f (range_with_len a n)
map-below f g a zero i lt same = refl
map-below f g a (suc n) i lt same =
    let differ : i ≢ a = omega (arith, lt) in
    let below : i < a + 1 = omega (arith, lt) in
    ap (λ x. x ∷ map g (range_with_len (a + 1) n)) (same a differ) ∙ ap (λ ys. f a ∷ ys) (map-below f g (a + 1) n i below same)

-- functions that differ at one number give lists that differ at one place
pub map-set_at : {X : Type 0} (f g : ℕ → X) (a n k i : ℕ) → i ≡ a + k → k < n → ((j : ℕ) → i ≢ j → g j ≡ f j) → map g (range_with_len a n) ≡ set (map f (range_with_len a n)) k (g i)
map-set_at f g a zero k i is lt same = absurd (omega (arith, lt))
map-set_at f g a (suc n) zero i is lt same =
    let here : a ≡ i = omega (arith, is) in
    let below : i < a + 1 = omega (arith, is) in
    ap (λ x. g x ∷ map g (range_with_len (a + 1) n)) here ∙ ap (λ ys. g i ∷ ys) (map-below f g (a + 1) n i below same)
map-set_at f g a (suc n) (suc k) i is lt same =
    let differ : i ≢ a = omega (arith, is) in
    let there : i ≡ a + 1 + k = omega (arith, is) in
    let less : k < n = omega (arith, lt) in
    ap (λ x. x ∷ map g (range_with_len (a + 1) n)) (same a differ) ∙ ap (λ ys. f a ∷ ys) (map-set_at f g (a + 1) n k i there less same)

-- the list of a function's values has them at their places
pub get_or-map-range : {X : Type 0} (f : ℕ → X) (a n k : ℕ) (d : X) → k < n → get_or (map f (range_with_len a n)) k d ≡ f (a + k)
get_or-map-range f a zero k d lt = absurd (omega (arith, lt))
get_or-map-range f a (suc n) zero d lt = ap f (omega arith)
get_or-map-range f a (suc n) (suc k) d lt =
    let less : k < n = omega (arith, lt) in
    get_or-map-range f (a + 1) n k d less ∙ ap f (omega arith)

-- an accepted event of a later cycle is held by its lane, which becomes the current one, and the other lanes stay
pub lanes_after-accepted : (lanes depth : ℕ) (judged : List Judged) (number at counter : ℕ) (e : Event) (k : ℕ) → k < lanes → counter < cycle_of e → lanes_after lanes depth (judged ++ Submitted number at e (Lane k) ∷ []) counter ≡ with_accepted (lanes_after lanes depth judged counter) k number e
lanes_after-accepted lanes depth judged number at counter e k lt later =
    let f : ℕ → LaneState = λ j. lane_of counter (accepted_into j judged) in
    let g : ℕ → LaneState = λ j. lane_of counter (accepted_into j (judged ++ Submitted number at e (Lane k) ∷ [])) in
    let place : k ≡ 0 + k = omega arith in
    let rest : map g (range_with_len 0 lanes) ≡ set (map f (range_with_len 0 lanes)) k (g k) =
    map-set_at f g 0 lanes k k place lt (λ j differ. ap (lane_of counter) (accepted_into-other judged j k number at e differ)) in
    let old : get_or (map f (range_with_len 0 lanes)) k empty_lane ≡ f k = get_or-map-range f 0 lanes k empty_lane lt ∙ ap f (sym place) in
    let new : g k ≡ record { held = (get_or (map f (range_with_len 0 lanes)) k empty_lane).held ++ (number, e) ∷ []; last = Some (cycle_of e) } =
    ap (lane_of counter) (accepted_into-taken judged k number at e) ∙ lane_of-push counter (accepted_into k judged) (number, e) later
    ∙ ap (λ (lane : LaneState). record { held = lane.held ++ (number, e) ∷ []; last = Some (cycle_of e) }) (sym old) in
    ap (λ (c : ℕ). record { depth = depth; current = c; lanes = map g (range_with_len 0 lanes) }) (current_lane-taken judged k number at e)
    ∙ ap (λ (ls : List LaneState). record { depth = depth; current = k; lanes = ls }) (rest ∙ ap (set (map f (range_with_len 0 lanes)) k) new)

shorter : (from to : ℕ) (events : List (ℕ × Event)) → from ≤ to → length (filter (λ p. nat_lt to (cycle_of p.1)) events) ≤ length (filter (λ p. nat_lt from (cycle_of p.1)) events)
shorter from to [] le = omega arith
shorter from to (p ∷ events) le = let ih = shorter from to events le in grind (arith, nat_tests, ih)

shorter-at : (f g : ℕ → LaneState) (ks : List ℕ) (k : ℕ) → ((j : ℕ) → length (g j).held ≤ length (f j).held) → length (get_or (map g ks) k empty_lane).held ≤ length (get_or (map f ks) k empty_lane).held
shorter-at f g [] k le = omega arith
shorter-at f g (j ∷ ks) zero le = le j
shorter-at f g (j ∷ ks) (suc k) le = shorter-at f g ks k le

last-at : (f g : ℕ → LaneState) (ks : List ℕ) (k : ℕ) → ((j : ℕ) → (g j).last ≡ (f j).last) → (get_or (map g ks) k empty_lane).last ≡ (get_or (map f ks) k empty_lane).last
last-at f g [] k same = refl
last-at f g (j ∷ ks) zero same = same j
last-at f g (j ∷ ks) (suc k) same = last-at f g ks k same

-- a lane that is full at a counter was full at each earlier one
pub full-earlier : (lanes depth : ℕ) (judged : List Judged) (from to k : ℕ) → from ≤ to → is_full_lane (lanes_after lanes depth judged to) k ≡ true → is_full_lane (lanes_after lanes depth judged from) k ≡ true
full-earlier lanes depth judged from to k le full =
    let f : ℕ → LaneState = λ j. lane_of from (accepted_into j judged) in
    let g : ℕ → LaneState = λ j. lane_of to (accepted_into j judged) in
    let less : length (get_or (map g (range_with_len 0 lanes)) k empty_lane).held ≤ length (get_or (map f (range_with_len 0 lanes)) k empty_lane).held =
    shorter-at f g (range_with_len 0 lanes) k (λ j. shorter from to (accepted_into j judged) le) in
    grind (arith, nat_tests, less, full)

-- the last cycle of a lane doesn't depend on the counter
pub enters-same : (lanes depth : ℕ) (judged : List Judged) (from to k : ℕ) (e : Event) → may_enter (lanes_after lanes depth judged to) k e ≡ may_enter (lanes_after lanes depth judged from) k e
enters-same lanes depth judged from to k e =
    ap (λ (last : Option ℕ). is_later last (cycle_of e))
    (last-at (λ j. lane_of from (accepted_into j judged)) (λ j. lane_of to (accepted_into j judged)) (range_with_len 0 lanes) k (λ j. refl))

-- the four tests that leave an event undecided
pub record IsUndecided (late takes enters full : Bool) : Type 0 where
  pub in_time : late ≡ false
  pub refused : takes ≡ false
  pub entered : enters ≡ true
  pub filled : full ≡ true

abbrev pub chosen : (late takes enters full : Bool) → ℕ → ℕ → Verdict
chosen late takes enters full i j = if late then Underflow else if takes then Lane i else if not enters then Sequence else if not full then Lane j else Undecided

pub undecided-tests : (late takes enters full : Bool) (i j : ℕ) → chosen late takes enters full i j ≡ Undecided → IsUndecided late takes enters full
undecided-tests true takes enters full i j h = absurd (cc)
undecided-tests false true enters full i j h = absurd (cc)
undecided-tests false false false full i j h = absurd (cc)
undecided-tests false false true false i j h = absurd (cc)
undecided-tests false false true true i j h = record { in_time = refl; refused = refl; entered = refl; filled = refl }

pub tests-undecided : (late takes enters full : Bool) (i j : ℕ) → IsUndecided late takes enters full → chosen late takes enters full i j ≡ Undecided
tests-undecided late takes enters full i j t = rw (t.in_time, t.refused, t.entered, t.filled) refl

still-refused : (full full' enters enters' : Bool) → enters' ≡ enters → (full' ≡ true → full ≡ true) → (not full' && enters') ≡ false → (not full && enters) ≡ false
still-refused true full' enters enters' same fills refused = refl
still-refused false true enters enters' same fills refused = let no : false ≡ true = fills refl in absurd (cc)
still-refused false false enters enters' same fills refused = sym same ∙ refused

-- an event that is undecided at a counter was undecided at each earlier one: what is decided stays decided
pub undecided-earlier : (lanes depth : ℕ) (judged : List Judged) (e : Event) (from to : ℕ) → from ≤ to → verdict (lanes_after lanes depth judged to) e to ≡ Undecided → verdict (lanes_after lanes depth judged from) e from ≡ Undecided
undecided-earlier lanes depth judged e from to le undecided =
    let old : LanesState = lanes_after lanes depth judged from in
    let new : LanesState = lanes_after lanes depth judged to in
    let t : IsUndecided (nat_le (cycle_of e) to) (current_takes new e) (may_enter new (next_lane new) e) (is_full_lane new (next_lane new)) =
    undecided-tests (nat_le (cycle_of e) to) (current_takes new e) (may_enter new (next_lane new) e) (is_full_lane new (next_lane new)) new.current (next_lane new) undecided in
    let next : next_lane new ≡ next_lane old =
    ap (λ n. (current_lane judged + 1) % n)
    (length-map (range_with_len 0 lanes) (λ j. lane_of to (accepted_into j judged)) ∙ sym (length-map (range_with_len 0 lanes) (λ j. lane_of from (accepted_into j judged)))) in
    let late : nat_le (cycle_of e) from ≡ false = grind (arith, nat_tests, t.in_time, le) in
    let takes : current_takes old e ≡ false =
    still-refused (is_full_lane old old.current) (is_full_lane new new.current) (may_enter old old.current e) (may_enter new new.current e)
    (enters-same lanes depth judged from to old.current e) (full-earlier lanes depth judged from to old.current le) t.refused in
    let enters : may_enter old (next_lane old) e ≡ true =
    sym (enters-same lanes depth judged from to (next_lane old) e) ∙ ap (λ k. may_enter new k e) (sym next) ∙ t.entered in
    let full : is_full_lane old (next_lane old) ≡ true =
    full-earlier lanes depth judged from to (next_lane old) le (ap (is_full_lane new) (sym next) ∙ t.filled) in
    tests-undecided (nat_le (cycle_of e) from) (current_takes old e) (may_enter old (next_lane old) e) (is_full_lane old (next_lane old)) old.current (next_lane old)
    (record { in_time = late; refused = takes; entered = enters; filled = full })
