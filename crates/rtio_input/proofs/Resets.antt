-- The last reset, and what a step more makes of it.
use Rattle.std.proofs.Common.{◌≡◌, ℕ, ◌<◌, ◌≤◌, Bool, true, false, List, [], ◌∷◌, ◌++◌, refl, ap, ◌∙◌, arith, cond, sym}
use Rattle.std.specs.Prelude.{Option, Some, None, fold, nat_lt, nat_le}
use Rattle.std.specs.List.{list_all}
use Rattle.std.proofs.lemmas.Bool.{leb-true, lt-ltb, le-ltb}
use Rattle.std.proofs.lemmas.List.Sums.{fold-append}
use Rattle.rtio_input.specs.Past.{InputStep, Read, Overflowed, Reset, is_after, last_reset, reset_before, input_step_at}
use Rattle.rtio_input.proofs.Lists.{left, right, fold-same}

-- with all steps up to a counter the last reset is the same before each later cycle
pub last_reset-same : (one other counter : ℕ) (steps : List InputStep) → counter < one → counter < other → list_all (λ s. nat_le (input_step_at s) counter) steps ≡ true → last_reset one steps ≡ last_reset other steps
last_reset-same one other counter steps lt below made = fold-same (λ s. nat_le (input_step_at s) counter) (reset_before one) (reset_before other) None steps made same
  where
    same : (last : Option ℕ) (s : InputStep) → nat_le (input_step_at s) counter ≡ true → reset_before one last s ≡ reset_before other last s
    same last (Read at channel) h = refl
    same last (Overflowed at channel) h = refl
    same last (Reset at) h =
        let le : at ≤ counter = leb-true at counter h in
        ap (λ (b : Bool). cond b (Some at) last) (lt-ltb at one (omega (arith, le, lt)))
        ∙ sym (ap (λ (b : Bool). cond b (Some at) last) (lt-ltb at other (omega (arith, le, below))))

after-from : (before counter cycle : ℕ) (last : Option ℕ) (steps : List InputStep) → counter < cycle → is_after last cycle ≡ true → list_all (λ s. nat_le (input_step_at s) counter) steps ≡ true → is_after (fold (reset_before before) last steps) cycle ≡ true
after-from before counter cycle last [] lt is made = is
after-from before counter cycle last (s ∷ steps) lt is made =
    after-from before counter cycle (reset_before before last s) steps lt (step s (left (nat_le (input_step_at s) counter) (list_all (λ s. nat_le (input_step_at s) counter) steps) made)) (right (nat_le (input_step_at s) counter) (list_all (λ s. nat_le (input_step_at s) counter) steps) made)
  where
    pick : (b : Bool) (at : ℕ) → at < cycle → is_after (cond b (Some at) last) cycle ≡ true
    pick true at less = lt-ltb at cycle less
    pick false at less = is

    step : (s : InputStep) → nat_le (input_step_at s) counter ≡ true → is_after (reset_before before last s) cycle ≡ true
    step (Read at channel) h = is
    step (Overflowed at channel) h = is
    step (Reset at) h = let le : at ≤ counter = leb-true at counter h in pick (nat_lt at before) at (omega (arith, le, lt))

-- a cycle later than all steps is after the last reset
pub after-all : (before counter cycle : ℕ) (steps : List InputStep) → counter < cycle → list_all (λ s. nat_le (input_step_at s) counter) steps ≡ true → is_after (last_reset before steps) cycle ≡ true
after-all before counter cycle steps lt made = after-from before counter cycle None steps lt refl made

-- a step from the cycle on doesn't count before it
pub last_reset-later : (cycle : ℕ) (steps : List InputStep) (s : InputStep) → cycle ≤ input_step_at s → last_reset cycle (steps ++ s ∷ []) ≡ last_reset cycle steps
last_reset-later cycle steps (Read at channel) le = fold-append (reset_before cycle) None steps (Read at channel ∷ [])
last_reset-later cycle steps (Overflowed at channel) le = fold-append (reset_before cycle) None steps (Overflowed at channel ∷ [])
last_reset-later cycle steps (Reset at) le =
    fold-append (reset_before cycle) None steps (Reset at ∷ [])
    ∙ ap (λ (b : Bool). cond b (Some at) (last_reset cycle steps)) (le-ltb at cycle le)

-- a reset before the cycle is the last one
pub last_reset-reset : (cycle at : ℕ) (steps : List InputStep) → at < cycle → last_reset cycle (steps ++ Reset at ∷ []) ≡ Some at
last_reset-reset cycle at steps lt =
    fold-append (reset_before cycle) None steps (Reset at ∷ [])
    ∙ ap (λ (b : Bool). cond b (Some at) (last_reset cycle steps)) (lt-ltb at cycle lt)

-- a step that resets nothing
abbrev pub IsAsk : InputStep → Type 0
IsAsk (Reset at) = ⊥
IsAsk step = Unit {0}

pub last_reset-ask : (cycle : ℕ) (steps : List InputStep) (s : InputStep) → IsAsk s → last_reset cycle (steps ++ s ∷ []) ≡ last_reset cycle steps
last_reset-ask cycle steps (Read at channel) asks = fold-append (reset_before cycle) None steps (Read at channel ∷ [])
last_reset-ask cycle steps (Overflowed at channel) asks = fold-append (reset_before cycle) None steps (Overflowed at channel ∷ [])
last_reset-ask cycle steps (Reset at) asks = absurd asks
