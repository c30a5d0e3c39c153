-- An event that is later than all accepted since the last clearing isn't out of sequence.
use Rattle.std.proofs.Common.{◌≡◌, ◌≢◌, ℕ, zero, suc, Bool, true, false, List, [], ◌∷◌, map, get_or, refl, arith}
use Rattle.std.specs.Prelude.{Option, Some, None, filter_map, fold, nat_lt, nat_le, ◌&&◌}
use Rattle.std.specs.List.{list_all, range_with_len}
use Rattle.rtio_types.specs.declared.event.Event.{Event}
use Rattle.rtio_types.specs.Time.{cycle_of}
use Rattle.sed_lanes.specs.Lanes.{LaneState, LanesState, empty_lane, is_later, may_enter, next_lane, is_full_lane}
use Rattle.sed_lanes.specs.Verdict.{Underflow, Lane, Sequence, Undecided, verdict, current_takes}
use Rattle.sed_lanes.specs.Judged.{Judged, Submitted, Cleared, since_clearing, accepted_into, taken_by, lane_of, lanes_after}
use Rattle.sed_lanes.specs.Accepted.{taken, accepted_since_clearing}
use Rattle.sed_lanes.proofs.Histories.{chosen}

-- both tests hold
both : (a b : Bool) → (a && b) ≡ true → (a ≡ true) × (b ≡ true)
both true b h = (refl, h)
both false b h = absurd (cc)

-- whether each event is of an earlier cycle
abbrev are_before : ℕ → List (ℕ × Event) → Bool
are_before cycle events = list_all (λ p. nat_lt (cycle_of p.1) cycle) events

later-from : (cycle : ℕ) (last : Option ℕ) (events : List (ℕ × Event)) → is_later last cycle ≡ true → are_before cycle events ≡ true → is_later (fold (λ _ p. Some (cycle_of p.1)) last events) cycle ≡ true
later-from cycle last [] h all = h
later-from cycle last (p ∷ events) h all =
    let parts = both (nat_lt (cycle_of p.1) cycle) (are_before cycle events) all in
    later-from cycle (Some (cycle_of p.1)) events parts.0 parts.1

-- what a lane took is among what all lanes took
before-taken : (cycle k : ℕ) (judged : List Judged) → are_before cycle (filter_map taken judged) ≡ true → are_before cycle (filter_map (taken_by k) judged) ≡ true
before-taken cycle k [] all = refl
before-taken cycle k (Submitted number at e (Lane j) ∷ rest) all =
    let parts = both (nat_lt (cycle_of e) cycle) (are_before cycle (filter_map taken rest)) all in
    let ih = before-taken cycle k rest parts.1 in
    grind (arith, parts.0, ih)
before-taken cycle k (Submitted number at e Underflow ∷ rest) all = before-taken cycle k rest all
before-taken cycle k (Submitted number at e Sequence ∷ rest) all = before-taken cycle k rest all
before-taken cycle k (Submitted number at e Undecided ∷ rest) all = before-taken cycle k rest all
before-taken cycle k (Cleared at ∷ rest) all = before-taken cycle k rest all

enters-at : (cycle : ℕ) (f : ℕ → LaneState) (ks : List ℕ) (k : ℕ) → ((j : ℕ) → is_later (f j).last cycle ≡ true) → is_later (get_or (map f ks) k empty_lane).last cycle ≡ true
enters-at cycle f [] k all = refl
enters-at cycle f (j ∷ ks) zero all = all j
enters-at cycle f (j ∷ ks) (suc k) all = enters-at cycle f ks k all

-- it may enter every lane
pub enters-later : (lanes depth : ℕ) (judged : List Judged) (counter k : ℕ) (e : Event) → are_before (cycle_of e) (accepted_since_clearing judged) ≡ true → may_enter (lanes_after lanes depth judged counter) k e ≡ true
enters-later lanes depth judged counter k e all =
    enters-at (cycle_of e) (λ j. lane_of counter (accepted_into j judged)) (range_with_len 0 lanes) k
    (λ j. later-from (cycle_of e) None (accepted_into j judged) refl (before-taken (cycle_of e) j (since_clearing judged) all))

not-sequence : (late takes enters full : Bool) (i j : ℕ) → enters ≡ true → chosen late takes enters full i j ≢ Sequence
not-sequence true takes enters full i j h = λ e. absurd (cc)
not-sequence false true enters full i j h = λ e. absurd (cc)
not-sequence false false true true i j h = λ e. absurd (cc)
not-sequence false false true false i j h = λ e. absurd (cc)
not-sequence false false false full i j h = absurd (cc)

-- so it isn't out of sequence
pub sequence-has-reason : (lanes depth : ℕ) (judged : List Judged) (counter : ℕ) (e : Event) → are_before (cycle_of e) (accepted_since_clearing judged) ≡ true → verdict (lanes_after lanes depth judged counter) e counter ≢ Sequence
sequence-has-reason lanes depth judged counter e all =
    let s : LanesState = lanes_after lanes depth judged counter in
    not-sequence (nat_le (cycle_of e) counter) (current_takes s e) (may_enter s (next_lane s) e) (is_full_lane s (next_lane s)) s.current (next_lane s)
    (enters-later lanes depth judged counter (next_lane s) e all)
