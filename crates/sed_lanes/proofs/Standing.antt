-- What the lanes stand for, behind each call.
use Rattle.std.proofs.Common.{◌≡◌, ℕ, ◌<◌, ◌≤◌, Bool, true, false, List, [], ◌∷◌, ◌++◌, map, length, refl, ap, ◌∙◌, sym, cond, subst, arith}
use Rattle.std.specs.Prelude.{filter, not, ◌==◌, nat_lt, nat_le, ◌&&◌, flat_map, if◌then◌else◌}
use Rattle.std.specs.List.{list_all, range_with_len}
use Rattle.std.proofs.lemmas.List.{length-map, length-replicate, length-set}
use Rattle.std.proofs.lemmas.Bool.Decides.{nat_tests}
use Rattle.rtio_types.specs.declared.event.Event.{Event}
use Rattle.rtio_types.specs.Time.{cycle_of}
use Rattle.sed_lanes.specs.Lanes.{LaneState, LanesState, empty_lanes, next_lane, may_enter, is_full_lane}
use Rattle.sed_lanes.specs.Verdict.{Verdict, Underflow, Lane, Sequence, Undecided, verdict, current_takes}
use Rattle.sed_lanes.specs.Judged.{Judged, LaneStep, Submit, Clear, Submitted, judged, accepted_into, current_lane, lane_of, lanes_after, last_cycle, next_number, since_clearing}
use Rattle.sed_lanes.specs.Calls.{LanesStandFor, after_verdict, all_held_from, without}
use Rattle.sed_lanes.proofs.Histories.{judged-submit, judged-clear, since_clearing-cleared, lanes_after-accepted}
use Rattle.sed_lanes.proofs.Unplaced.{lanes_after-unplaced, lanes_after-nothing}

-- the lane of a verdict is one of the lanes
abbrev pub IsLaneBelow : ℕ → Verdict → Type 0
IsLaneBelow lanes (Lane k) = k < lanes
IsLaneBelow lanes v = Unit {0}

chosen-below : (late takes enters full : Bool) (i j lanes : ℕ) → i < lanes → j < lanes → IsLaneBelow lanes (if late then Underflow else if takes then Lane i else if not enters then Sequence else if not full then Lane j else Undecided)
chosen-below true takes enters full i j lanes below next = tt
chosen-below false true enters full i j lanes below next = below
chosen-below false false false full i j lanes below next = tt
chosen-below false false true false i j lanes below next = next
chosen-below false false true true i j lanes below next = tt

-- a lane that takes an event is one of the lanes
pub verdict-below : (s : LanesState) (e : Event) (counter : ℕ) → s.current < length s.lanes → next_lane s < length s.lanes → IsLaneBelow (length s.lanes) (verdict s e counter)
verdict-below s e counter below next =
    chosen-below (nat_le (cycle_of e) counter) (current_takes s e) (may_enter s (next_lane s) e) (is_full_lane s (next_lane s)) s.current (next_lane s) (length s.lanes) below next

-- the lanes behind a verdict, for a history that they stood for before
behind : (lanes depth : ℕ) (old : List Judged) (number counter : ℕ) (e : Event) (v : Verdict) → counter < cycle_of e → IsLaneBelow lanes v → after_verdict (lanes_after lanes depth old counter) number e v ≡ lanes_after lanes depth (old ++ Submitted number counter e v ∷ []) counter
behind lanes depth old number counter e Underflow later below = sym (lanes_after-unplaced lanes depth old number counter counter e Underflow tt)
behind lanes depth old number counter e (Lane k) later below = sym (lanes_after-accepted lanes depth old number counter counter e k below later)
behind lanes depth old number counter e Sequence later below = sym (lanes_after-unplaced lanes depth old number counter counter e Sequence tt)
behind lanes depth old number counter e Undecided later below = sym (lanes_after-unplaced lanes depth old number counter counter e Undecided tt)

after-length : (s : LanesState) (number : ℕ) (e : Event) (v : Verdict) → length (after_verdict s number e v).lanes ≡ length s.lanes
after-length s number e Underflow = refl
after-length s number e (Lane k) = length-set _ _ _
after-length s number e Sequence = refl
after-length s number e Undecided = refl

after-depth : (s : LanesState) (number : ℕ) (e : Event) (v : Verdict) → (after_verdict s number e v).depth ≡ s.depth
after-depth s number e Underflow = refl
after-depth s number e (Lane k) = refl
after-depth s number e Sequence = refl
after-depth s number e Undecided = refl

-- lanes of so many and such a depth stand for what they are
pub stands-at : (s : LanesState) (lanes depth : ℕ) (steps : List LaneStep) (counter : ℕ) → length s.lanes ≡ lanes → s.depth ≡ depth → s ≡ lanes_after lanes depth (judged lanes depth steps) counter → LanesStandFor s steps counter
stands-at s lanes depth steps counter is_long is_deep is =
    is ∙ ap (λ (n : ℕ). lanes_after n depth (judged n depth steps) counter) (sym is_long)
    ∙ ap (λ (d : ℕ). lanes_after (length s.lanes) d (judged (length s.lanes) d steps) counter) (sym is_deep)

-- behind `place`
pub stands-placed : (s : LanesState) (steps : List LaneStep) (counter number : ℕ) (e : Event) → counter < cycle_of e → s.current < length s.lanes → next_lane s < length s.lanes → LanesStandFor s steps counter → number ≡ next_number (judged (length s.lanes) s.depth steps) → LanesStandFor (after_verdict s number e (verdict s e counter)) (steps ++ Submit counter e ∷ []) counter
stands-placed s steps counter number e later below next stands is =
    let lanes : ℕ = length s.lanes in
    let depth : ℕ = s.depth in
    let old : List Judged = judged lanes depth steps in
    let v : Verdict = verdict s e counter in
    let grown : judged lanes depth (steps ++ Submit counter e ∷ []) ≡ old ++ Submitted number counter e v ∷ [] =
    judged-submit lanes depth steps counter e
    ∙ ap (λ (x : LanesState). old ++ Submitted (next_number old) counter e (verdict x e counter) ∷ []) (sym stands)
    ∙ ap (λ (n : ℕ). old ++ Submitted n counter e v ∷ []) (sym is) in
    stands-at (after_verdict s number e v) lanes depth (steps ++ Submit counter e ∷ []) counter (after-length s number e v) (after-depth s number e v)
    (ap (λ (x : LanesState). after_verdict x number e v) stands
    ∙ behind lanes depth old number counter e v later (verdict-below s e counter below next)
    ∙ ap (λ (j : List Judged). lanes_after lanes depth j counter) (sym grown))

-- behind `clear`, whatever they stood for
pub stands-cleared : (lanes depth : ℕ) (steps : List LaneStep) (at counter : ℕ) → LanesStandFor (empty_lanes lanes depth) (steps ++ Clear at ∷ []) counter
stands-cleared lanes depth steps at counter =
    let none : since_clearing (judged lanes depth (steps ++ Clear at ∷ [])) ≡ [] =
    ap since_clearing (judged-clear lanes depth steps at) ∙ since_clearing-cleared (judged lanes depth steps) at in
    stands-at (empty_lanes lanes depth) lanes depth (steps ++ Clear at ∷ []) counter (length-replicate _ _) refl
    (sym (lanes_after-nothing lanes depth (judged lanes depth (steps ++ Clear at ∷ [])) counter none))

-- behind `new`
pub stands-new : (lanes depth counter : ℕ) → LanesStandFor (empty_lanes lanes depth) [] counter
stands-new lanes depth counter =
    stands-at (empty_lanes lanes depth) lanes depth [] counter (length-replicate _ _) refl (sym (lanes_after-nothing lanes depth [] counter refl))

both : (a b : Bool) → (a && b) ≡ true → (a ≡ true) × (b ≡ true)
both true b h = (refl, h)
both false b h = absurd (cc)

-- what all of two lists pass, each passes
pub all-append : (test : ℕ × Event → Bool) (xs ys : List (ℕ × Event)) → list_all test (xs ++ ys) ≡ true → (list_all test xs ≡ true) × (list_all test ys ≡ true)
all-append test [] ys h = (refl, h)
all-append test (x ∷ xs) ys h =
    let parts = both (test x) (list_all test (xs ++ ys)) h in
    let ih = all-append test xs ys parts.1 in
    (rw parts.0 ih.0, ih.1)

-- of those held at a counter, none before the cycle, the ones of other cycles are those held at the cycle
held-reached : (counter cycle : ℕ) (events : List (ℕ × Event)) → counter ≤ cycle → list_all (λ p. nat_le cycle (cycle_of p.1)) (filter (λ p. nat_lt counter (cycle_of p.1)) events) ≡ true → filter (λ p. not (cycle_of p.1 == cycle)) (filter (λ p. nat_lt counter (cycle_of p.1)) events) ≡ filter (λ p. nat_lt cycle (cycle_of p.1)) events
held-reached counter cycle [] le all = refl
held-reached counter cycle (p ∷ events) le all = reached-at (nat_lt counter (cycle_of p.1)) refl all (held-reached counter cycle events le)
  where
    rest-is : Type 0
    rest-is = filter (λ q. not (cycle_of q.1 == cycle)) (filter (λ q. nat_lt counter (cycle_of q.1)) events) ≡ filter (λ q. nat_lt cycle (cycle_of q.1)) events

    reached-at : (b : Bool) → nat_lt counter (cycle_of p.1) ≡ b → list_all (λ q. nat_le cycle (cycle_of q.1)) (cond b (p ∷ filter (λ q. nat_lt counter (cycle_of q.1)) events) (filter (λ q. nat_lt counter (cycle_of q.1)) events)) ≡ true → (list_all (λ q. nat_le cycle (cycle_of q.1)) (filter (λ q. nat_lt counter (cycle_of q.1)) events) ≡ true → rest-is) → filter (λ q. not (cycle_of q.1 == cycle)) (cond b (p ∷ filter (λ q. nat_lt counter (cycle_of q.1)) events) (filter (λ q. nat_lt counter (cycle_of q.1)) events)) ≡ cond (nat_lt cycle (cycle_of p.1)) (p ∷ filter (λ q. nat_lt cycle (cycle_of q.1)) events) (filter (λ q. nat_lt cycle (cycle_of q.1)) events)
    reached-at true is all ih =
        let parts = both (nat_le cycle (cycle_of p.1)) (list_all (λ q. nat_le cycle (cycle_of q.1)) (filter (λ q. nat_lt counter (cycle_of q.1)) events)) all in
        let rest = ih parts.1 in
        grind (arith, nat_tests, is, parts.0, rest)
    reached-at false is all ih =
        let rest = ih all in
        grind (arith, nat_tests, is, le, rest)

lanes-reached : (counter cycle : ℕ) (taken : ℕ → List (ℕ × Event)) (ks : List ℕ) → counter ≤ cycle → list_all (λ p. nat_le cycle (cycle_of p.1)) (flat_map (λ (lane : LaneState). lane.held) (map (λ k. lane_of counter (taken k)) ks)) ≡ true → map (λ (lane : LaneState). record lane { held = filter (λ p. not (cycle_of p.1 == cycle)) lane.held }) (map (λ k. lane_of counter (taken k)) ks) ≡ map (λ k. lane_of cycle (taken k)) ks
lanes-reached counter cycle taken [] le all = refl
lanes-reached counter cycle taken (k ∷ ks) le all =
    let parts = all-append (λ p. nat_le cycle (cycle_of p.1)) (filter (λ p. nat_lt counter (cycle_of p.1)) (taken k)) (flat_map (λ (lane : LaneState). lane.held) (map (λ j. lane_of counter (taken j)) ks)) all in
    let first = held-reached counter cycle (taken k) le parts.0 in
    let ih = lanes-reached counter cycle taken ks le parts.1 in
    ap (λ (held : List (ℕ × Event)). record { held = held; last = last_cycle (taken k) } ∷ map (λ (lane : LaneState). record lane { held = filter (λ p. not (cycle_of p.1 == cycle)) lane.held }) (map (λ j. lane_of counter (taken j)) ks)) first
    ∙ ap (λ (lanes : List LaneState). lane_of cycle (taken k) ∷ lanes) ih

-- behind `drain`
pub stands-drained : (s : LanesState) (steps : List LaneStep) (counter cycle : ℕ) → counter ≤ cycle → all_held_from cycle s ≡ true → LanesStandFor s steps counter → LanesStandFor (without cycle s) steps cycle
stands-drained s steps counter cycle le from stands =
    let lanes : ℕ = length s.lanes in
    let depth : ℕ = s.depth in
    let old : List Judged = judged lanes depth steps in
    let held : all_held_from cycle (lanes_after lanes depth old counter) ≡ true = ap (all_held_from cycle) (sym stands) ∙ from in
    stands-at (without cycle s) lanes depth steps cycle (length-map s.lanes _) refl
    (ap (without cycle) stands
    ∙ ap (λ (ls : List LaneState). record { depth = depth; current = current_lane old; lanes = ls })
    (lanes-reached counter cycle (λ k. accepted_into k old) (range_with_len 0 lanes) le held))

-- behind `place`, for the lanes that it leaves
pub stands-behind : (s left : LanesState) (steps : List LaneStep) (counter number : ℕ) (e : Event) → counter < cycle_of e → s.current < length s.lanes → next_lane s < length s.lanes → LanesStandFor s steps counter → number ≡ next_number (judged (length s.lanes) s.depth steps) → left ≡ after_verdict s number e (verdict s e counter) → LanesStandFor left (steps ++ Submit counter e ∷ []) counter
stands-behind s left steps counter number e later below next stands is after =
    subst (λ (x : LanesState). LanesStandFor x (steps ++ Submit counter e ∷ []) counter) (sym after)
    (stands-placed s steps counter number e later below next stands is)
