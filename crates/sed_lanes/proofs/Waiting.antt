-- Until when an undecided event waits.
use Rattle.std.proofs.Common.{inl, inr, ◌≡◌, ◌<◌, ◌≤◌, ℕ, Bool, true, false, List, [], ◌∷◌, length, refl, ◌∙◌, sym, arith}
use Rattle.std.specs.Prelude.{◌⊎◌, Option, min, not, nat_le, nat_lt, ◌&&◌}
use Rattle.std.specs.List.{list_all}
use Rattle.std.proofs.lemmas.Bool.Decides.{nat_tests}
use Rattle.rtio_types.specs.declared.event.Event.{Event}
use Rattle.rtio_types.specs.Time.{cycle_of}
use Rattle.sed_lanes.specs.Calls.{all_held_after}
use Rattle.sed_lanes.specs.Lanes.{LanesState, empty_lane, is_full_lane, lane_at, may_enter, next_lane}
use Rattle.sed_lanes.specs.Verdict.{Undecided, current_takes, frees_at, until, verdict}
use Rattle.sed_lanes.proofs.Accepting.{next-seen}
use Rattle.sed_lanes.proofs.Emptying.{all-at}
use Rattle.sed_lanes.proofs.Histories.{IsUndecided, undecided-tests}

and-true : (a b : Bool) → (a && b) ≡ true → (a ≡ true) × (b ≡ true)
and-true true b h = (refl, h)
and-true false b h = absurd (cc)

-- the tests of an undecided event
pub tests-of : (s : LanesState) (e : Event) (counter : ℕ) → verdict s e counter ≡ Undecided → IsUndecided (nat_le (cycle_of e) counter) (current_takes s e) (may_enter s (next_lane s) e) (is_full_lane s (next_lane s))
tests-of s e counter undecided =
    undecided-tests (nat_le (cycle_of e) counter) (current_takes s e) (may_enter s (next_lane s) e) (is_full_lane s (next_lane s)) s.current (next_lane s) undecided

-- the current lane, if the event may enter it, is full
pub current-full : (full enters : Bool) → (not full && enters) ≡ false → enters ≡ true → full ≡ true
current-full true enters refused is = refl
current-full false enters refused is = let no : true ≡ false = sym is ∙ refused in absurd (cc)

-- an event waits for the first place of the next lane, or of the current one if it may enter that and it is earlier
pub until-cases : (s : LanesState) (e : Event) → may_enter s (next_lane s) e ≡ true → ((may_enter s s.current e ≡ true) × (until s e ≡ min (frees_at (lane_at s s.current)) (frees_at (lane_at s (next_lane s))))) ⊎ ((may_enter s s.current e ≡ false) × (until s e ≡ frees_at (lane_at s (next_lane s))))
until-cases s e next = by-current (may_enter s s.current e) refl
  where
    by-current : (b : Bool) → may_enter s s.current e ≡ b → ((may_enter s s.current e ≡ true) × (until s e ≡ min (frees_at (lane_at s s.current)) (frees_at (lane_at s (next_lane s))))) ⊎ ((may_enter s s.current e ≡ false) × (until s e ≡ frees_at (lane_at s (next_lane s))))
    by-current true is = inl (is, rw (is, next) refl)
    by-current false is = inr (is, rw (is, next) refl)

full-later : (depth counter : ℕ) (held : List (ℕ × Event)) (last : Option ℕ) → 1 ≤ depth → list_all (λ p. nat_lt counter (cycle_of p.1)) held ≡ true → nat_le depth (length held) ≡ true → counter < frees_at (record { held = held; last = last })
full-later depth counter [] last some all full = let no : depth ≤ 0 = grind (arith, nat_tests, full) in absurd (omega (arith, some, no))
full-later depth counter (p ∷ rest) last some all full =
    let first = (and-true (nat_lt counter (cycle_of p.1)) _ all).0 in
    grind (arith, nat_tests, first)

-- a full lane frees a place later than the counter
pub frees-later : (s : LanesState) (counter k : ℕ) → 1 ≤ s.depth → all_held_after counter s ≡ true → k < length s.lanes → is_full_lane s k ≡ true → counter < frees_at (lane_at s k)
frees-later s counter k some all lt full =
    full-later s.depth counter (lane_at s k).held (lane_at s k).last some (all-at (λ p. nat_lt counter (cycle_of p.1)) s.lanes k empty_lane lt all) full

-- so an event that waits at a counter waits until a later one
pub until-later : (s : LanesState) (e : Event) (counter : ℕ) → all_held_after counter s ≡ true → 1 ≤ s.depth → s.current < length s.lanes → verdict s e counter ≡ Undecided → counter < until s e
until-later s e counter all some below undecided = by-current (until-cases s e t.entered)
  where
    t : IsUndecided (nat_le (cycle_of e) counter) (current_takes s e) (may_enter s (next_lane s) e) (is_full_lane s (next_lane s))
    t = tests-of s e counter undecided

    next : counter < frees_at (lane_at s (next_lane s))
    next = frees-later s counter (next_lane s) some all (next-seen s below) t.filled

    by-current : ((may_enter s s.current e ≡ true) × (until s e ≡ min (frees_at (lane_at s s.current)) (frees_at (lane_at s (next_lane s))))) ⊎ ((may_enter s s.current e ≡ false) × (until s e ≡ frees_at (lane_at s (next_lane s)))) → counter < until s e
    by-current (inl (enters, is)) =
        let here = frees-later s counter s.current some all below (current-full (is_full_lane s s.current) (may_enter s s.current e) t.refused enters) in
        let there = next in
        omega (arith, here, there, is)
    by-current (inr (other, is)) = let there = next in omega (arith, there, is)
